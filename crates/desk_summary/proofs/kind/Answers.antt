-- `desk_summary::kind` is right since its parts are put one behind the other. Assumes nothing.
use Rattle.std.proofs.Common.{arith}
use Rattle.desk_lines.proofs.Laws.{then}
use Rattle.desk_summary.proofs.kind.Goals as goal

pub returns : goal.returns
returns c =
    let w = c.kind_word-a.ensures in
    let n = c.counted.ensures in
    record { placed = then w.placed (rw c.kind_at.ensures at n.placed); short = omega (arith, w.short, n.short) }
