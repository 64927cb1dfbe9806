-- `c_inflight::count` is right since the count goes by what is left. Assumes nothing.
use native.Mathlib.Omega.{arith}
use Rattle.inflight.proofs.Laws.{none_counted, counted, all_counted}
use Rattle.c_inflight.proofs.count.Goals as goal

pub loop-b-init : goal.loop-b-init
loop-b-init c = none_counted _

pub loop-b-preserved : goal.loop-b-preserved
loop-b-preserved c = counted c.loop-b.invariant (omega arith) _ c.one_if_waits-n.ensures

pub returns : goal.returns
returns c = all_counted c.loop-b.invariant (omega arith)
