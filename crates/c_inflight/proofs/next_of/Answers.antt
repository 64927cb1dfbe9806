-- `c_inflight::next_of` is right since it is the definition, read by cases. Assumes nothing.
use Rattle.inflight.proofs.Laws.{pubrec_on, pubrec_off}
use Rattle.c_inflight.proofs.next_of.Goals as goal

pub returns-then-reason-lt128 : goal.returns-then-reason-lt128
returns-then-reason-lt128 c = pubrec_on _ c.if-reason-lt128.true

pub returns : goal.returns
returns c = pubrec_off _ c.if-reason-lt128.false
