-- `topics::half_levels` is right since each level passed leaves it to the rest, and the loop ends when less is left than was passed. Assumes nothing.
use Rattle.std.proofs.Common.{length, ◌≡◌, ◌≤◌}
use Rattle.topics.specs.Levels.{levels}
use Rattle.topics.specs.Match.{rest_matches}
use Rattle.topics.proofs.half_levels.Given as goal

abbrev pub invariant-loop-f : goal.invariant-loop-f
invariant-loop-f l = (length l.f ≤ length l.filter) × (rest_matches (levels l.f) (levels l.t) ≡ rest_matches (levels l.filter) (levels l.topic))

abbrev pub decreases-loop-f : goal.decreases-loop-f
decreases-loop-f l = length l.f
