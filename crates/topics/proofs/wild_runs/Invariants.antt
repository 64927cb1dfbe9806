use Rattle.std.proofs.Common.{◌≡◌, length}
use Rattle.topics.specs.Levels.{has_wild}
use Rattle.topics.proofs.Laws.{IsLeft}
use Rattle.topics.proofs.wild_runs.Given as goal

abbrev pub invariant-loop-run : goal.invariant-loop-run
invariant-loop-run g l = IsLeft l.s l.rest × (has_wild l.rest ≡ has_wild l.s)

abbrev pub decreases-loop-run : goal.decreases-loop-run
decreases-loop-run g l = length l.rest
