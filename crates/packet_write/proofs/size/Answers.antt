-- `packet_write::size` is right since 20 is given for what does not belong to the record, and else the kind's size. Assumes nothing.
use mathlib.Core.Path.{sym, ◌∙◌}
use Rattle.packet_write.proofs.Laws.{sized_alone, sized_mixed}
use Rattle.packet_write.proofs.size.Goals as goal

pub returns-then-not-alone : goal.returns-then-not-alone
returns-then-not-alone c = sized_mixed _ _ (sym c.nothing_else-alone.ensures ∙ c.if-not-alone.true)

pub returns-in-Publish : goal.returns-in-Publish
returns-in-Publish c = sized_alone _ _ (sym c.nothing_else-alone.ensures ∙ c.if-not-alone.false) (rw c.in-Publish.is c.size.ensures)

pub returns-in-Ack : goal.returns-in-Ack
returns-in-Ack c = sized_alone _ _ (sym c.nothing_else-alone.ensures ∙ c.if-not-alone.false) (rw c.in-Ack.is c.size-in-Ack.ensures)

pub returns-in-Subscribe : goal.returns-in-Subscribe
returns-in-Subscribe c = sized_alone _ _ (sym c.nothing_else-alone.ensures ∙ c.if-not-alone.false) (rw c.in-Subscribe.is c.size-in-Subscribe.ensures)

pub returns-in-Reply : goal.returns-in-Reply
returns-in-Reply c = sized_alone _ _ (sym c.nothing_else-alone.ensures ∙ c.if-not-alone.false) (rw c.in-Reply.is c.size-in-Reply.ensures)

pub returns-in-Unsubscribe : goal.returns-in-Unsubscribe
returns-in-Unsubscribe c = sized_alone _ _ (sym c.nothing_else-alone.ensures ∙ c.if-not-alone.false) (rw c.in-Unsubscribe.is c.size-in-Unsubscribe.ensures)

pub returns-in-PingReq : goal.returns-in-PingReq
returns-in-PingReq c = sized_alone _ _ (sym c.nothing_else-alone.ensures ∙ c.if-not-alone.false) (rw c.in-PingReq.is (c.ping_size.ensures 12))

pub returns-in-PingResp : goal.returns-in-PingResp
returns-in-PingResp c = sized_alone _ _ (sym c.nothing_else-alone.ensures ∙ c.if-not-alone.false) (rw c.in-PingResp.is (c.ping_size-in-PingResp.ensures 13))
