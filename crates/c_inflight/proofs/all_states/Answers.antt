-- `c_inflight::all_states` is right since `|` of bytes is below 4 just where each of them is. Assumes nothing.
use native.Mathlib.Omega.{arith}
use Rattle.c_inflight.proofs.Laws.{gathered_none, gathered_more, gathered_all}
use Rattle.c_inflight.proofs.all_states.Goals as goal

pub loop-b-init : goal.loop-b-init
loop-b-init c = gathered_none _

pub loop-b-preserved : goal.loop-b-preserved
loop-b-preserved c = gathered_more c.loop-b.invariant (omega arith)

pub returns : goal.returns
returns c = gathered_all c.loop-b.invariant (omega arith)
