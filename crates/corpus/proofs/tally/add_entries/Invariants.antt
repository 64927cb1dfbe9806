-- `corpus::tally::add_entries` ends since what is left of the class falls. Assumes nothing.
use Rattle.std.proofs.Common.{◌≡◌, length}
use Rattle.corpus.proofs.tally.add_entries.Given as goal

abbrev pub invariant-loop-left : goal.invariant-loop-left
invariant-loop-left l = length l.tally ≡ length l.initial.tally

abbrev pub decreases-loop-left : goal.decreases-loop-left
decreases-loop-left l = l.left
