-- `desk_lines::two_values` is right since its parts are put one behind the other. Assumes nothing.
use native.Mathlib.Omega.{arith}
use Rattle.desk_lines.proofs.Laws.{then}
use Rattle.desk_lines.proofs.two_values.Goals as goal

pub returns : goal.returns
returns c =
    let m = c.number-a.ensures in
    let n = c.number-b.ensures in
    let w = c.word.ensures in
    record { placed = then (then m.placed n.placed) w; short = omega (arith, m.short, n.short, w.behind) }
