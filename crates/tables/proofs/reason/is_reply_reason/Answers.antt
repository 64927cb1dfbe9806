-- `tables::reason::is_reply_reason` meets its contract: each kind hands over to the function of its list. Assumes nothing.
use Rattle.grammar.specs.Tables.{kinds, reasons_of}
use Rattle.tables.proofs.reason.is_reply_reason.Goals as goal

pub returns-in-SubAck : goal.returns-in-SubAck
unfolding reasons_of kinds
returns-in-SubAck c = rw c.in-SubAck.is c.is_suback_reason.ensures

pub returns-in-UnsubAck : goal.returns-in-UnsubAck
unfolding reasons_of kinds
returns-in-UnsubAck c = rw c.in-UnsubAck.is c.is_unsuback_reason.ensures
