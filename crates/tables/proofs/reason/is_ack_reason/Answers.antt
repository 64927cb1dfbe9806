-- `tables::reason::is_ack_reason` meets its contract: each kind hands over to the function of its list. Assumes nothing.
use Rattle.grammar.specs.Tables.{kinds, reasons_of}
use Rattle.tables.proofs.reason.is_ack_reason.Goals as goal

pub returns-in-PubAck : goal.returns-in-PubAck
unfolding reasons_of kinds
returns-in-PubAck c = rw c.in-PubAck.is c.is_publish_reason.ensures

pub returns-in-PubRec : goal.returns-in-PubRec
unfolding reasons_of kinds
returns-in-PubRec c = rw c.in-PubRec.is c.is_publish_reason-in-PubRec.ensures

pub returns-in-PubRel : goal.returns-in-PubRel
unfolding reasons_of kinds
returns-in-PubRel c = rw c.in-PubRel.is c.is_release_reason.ensures

pub returns-in-PubComp : goal.returns-in-PubComp
unfolding reasons_of kinds
returns-in-PubComp c = rw c.in-PubComp.is c.is_release_reason-in-PubComp.ensures
