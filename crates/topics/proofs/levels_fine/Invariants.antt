use lib.ListN.{length}
use Rattle.topics.proofs.Laws.{Fine}
use Rattle.topics.proofs.levels_fine.Given as goal

abbrev pub invariant-loop-end : goal.invariant-loop-end
invariant-loop-end l = Fine l.filter l.rest l.end

abbrev pub decreases-loop-end : goal.decreases-loop-end
decreases-loop-end l = length l.rest
