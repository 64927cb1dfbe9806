use Rattle.std.proofs.Common.{◌≡◌, ◌+◌, ◌*◌, ◌≤◌, length}
use Rattle.desk_lines.specs.Line.{PutAt}
use Rattle.desk_summary.specs.Tally.{kinds_to}
use Rattle.desk_summary.proofs.kinds.Given as goal

abbrev pub invariant-loop-n : goal.invariant-loop-n
invariant-loop-n l = (length l.out ≡ length l.initial.out) × (l.n ≤ 11) × (l.next ≤ l.at + 64 * l.n) × PutAt l.initial.out l.at (kinds_to l.tally l.n) l.out l.next
