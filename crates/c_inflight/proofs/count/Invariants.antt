use Rattle.inflight.proofs.Laws.{Counted}
use Rattle.c_inflight.proofs.count.Given as goal

abbrev pub invariant-loop-b : goal.invariant-loop-b
invariant-loop-b l = Counted l.codes l.n l.b-index
