use Rattle.std.proofs.Common.{◌≡◌, ◌+◌, ◌*◌, ◌≤◌, length}
use Rattle.desk_lines.specs.Line.{PutAt}
use Rattle.desk_summary.specs.Tally.{refusals_to}
use Rattle.desk_summary.proofs.refusals.Given as goal

abbrev pub invariant-loop-k : goal.invariant-loop-k
invariant-loop-k l = (length l.out ≡ length l.initial.out) × (l.k ≤ 23) × (l.next ≤ l.at + 64 * l.k) × PutAt l.initial.out l.at (refusals_to l.tally l.k) l.out l.next
