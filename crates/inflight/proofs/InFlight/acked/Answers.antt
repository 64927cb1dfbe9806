-- `InFlight::acked` is right since each kind is handed to the function of its name. Assumes nothing.
use Rattle.inflight.specs.Rules.{call, answer_by}
use Rattle.inflight.proofs.InFlight.acked.Goals as goal

pub returns-in-PubAck : goal.returns-in-PubAck
unfolding answer_by
returns-in-PubAck c = rw c.in-PubAck.is c.puback.ensures

pub returns-in-PubRec : goal.returns-in-PubRec
unfolding answer_by
returns-in-PubRec c = rw c.in-PubRec.is c.pubrec.ensures

pub returns-in-PubRel : goal.returns-in-PubRel
unfolding answer_by call
returns-in-PubRel c = rw c.in-PubRel.is

pub returns-in-PubComp : goal.returns-in-PubComp
unfolding answer_by
returns-in-PubComp c = rw c.in-PubComp.is c.pubcomp.ensures
