-- `c_inflight::all_taken` is right since a byte that is free leaves its mark. Assumes nothing.
use native.Mathlib.Omega.{arith}
use Rattle.c_inflight.proofs.Laws.{passed_none, passed_more, passed_all}
use Rattle.c_inflight.proofs.all_taken.Goals as goal

pub loop-b-init : goal.loop-b-init
loop-b-init c = passed_none _

pub loop-b-preserved : goal.loop-b-preserved
loop-b-preserved c = passed_more _ c.loop-b.invariant (omega arith) c.mark-any.ensures

pub returns : goal.returns
returns c = passed_all c.loop-b.invariant (omega arith) (omega arith)
