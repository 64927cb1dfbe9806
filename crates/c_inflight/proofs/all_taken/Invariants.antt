use Rattle.c_inflight.proofs.Laws.{Passed}
use Rattle.c_inflight.proofs.all_taken.Given as goal

abbrev pub invariant-loop-b : goal.invariant-loop-b
invariant-loop-b l = Passed l.s l.any l.b-index
