use Rattle.std.proofs.Common.{◌-◌, length}
use Rattle.speed_leaves.proofs.Laws.{Summed}
use Rattle.speed_leaves.proofs.speed_leaves_sum.Given as goal

abbrev pub invariant-loop-at : goal.invariant-loop-at
invariant-loop-at l = Summed l.s l.sum l.at

abbrev pub decreases-loop-at : goal.decreases-loop-at
decreases-loop-at l = length l.s - l.at
