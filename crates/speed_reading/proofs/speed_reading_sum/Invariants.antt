use Rattle.std.proofs.Common.{◌-◌, length}
use Rattle.speed_reading.proofs.Laws.{Summed}
use Rattle.speed_reading.proofs.speed_reading_sum.Given as goal

abbrev pub invariant-loop-at : goal.invariant-loop-at
invariant-loop-at l = Summed l.stream l.sum l.at

abbrev pub decreases-loop-at : goal.decreases-loop-at
decreases-loop-at l = length l.stream - l.at
