-- `desk_lines::too_long_at` is right since its parts are put one behind the other. Assumes nothing.
use native.Mathlib.Omega.{arith}
use Rattle.desk_lines.proofs.Laws.{then}
use Rattle.desk_lines.proofs.too_long_at.Goals as goal

pub returns : goal.returns
returns c =
    let m = c.number-a.ensures in
    let n = c.number.ensures in
    record { placed = then m.placed n.placed; short = omega (arith, m.short, n.short) }
