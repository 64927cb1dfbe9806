-- `desk_lines::one_value` is right since its parts are put one behind the other. Assumes nothing.
use native.Mathlib.Omega.{arith}
use Rattle.desk_lines.proofs.Laws.{then}
use Rattle.desk_lines.proofs.one_value.Goals as goal

pub returns : goal.returns
returns c =
    let n = c.number-a.ensures in
    let w = c.word.ensures in
    record { placed = then n.placed w; short = omega (arith, n.short, w.behind) }
