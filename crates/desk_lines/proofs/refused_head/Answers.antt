-- `desk_lines::refused_head` is right since its parts are put one behind the other. Assumes nothing.
use native.Mathlib.Omega.{arith}
use Rattle.desk_lines.proofs.Laws.{then}
use Rattle.desk_lines.proofs.refused_head.Goals as goal

pub returns : goal.returns
returns c =
    let d = c.decimal-a.ensures in
    let n = c.number-b.ensures in
    let w = c.word.ensures in
    record { placed = then (then d.placed (rw c.number.ensures at n.placed)) w; short = omega (arith, d.short, n.short, w.behind) }
