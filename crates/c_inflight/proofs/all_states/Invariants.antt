use Rattle.c_inflight.proofs.Laws.{Gathered}
use Rattle.c_inflight.proofs.all_states.Given as goal

abbrev pub invariant-loop-b : goal.invariant-loop-b
invariant-loop-b l = Gathered l.codes l.any l.b-index
