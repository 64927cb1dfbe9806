-- `ack::read_reason` is right since a reason is tested where a byte is left, and what follows it is read then. Assumes nothing.
use mathlib.Core.Path.{sym, ◌∙◌}
use Rattle.ack.proofs.Laws.{rest_none, reason_bad, reason_got}
use Rattle.ack.proofs.read_reason.Goals as goal

pub returns-then-s-at : goal.returns-then-s-at
returns-then-s-at c = let a = c.args in rest_none _ a.s.now a.at a.pkid c.if-s-at.true

pub returns-then-is_ack_reason : goal.returns-then-is_ack_reason
returns-then-is_ack_reason c =
    let a = c.args in
    c.read_behind.ensures ∙ reason_got _ a.s.now a.at a.pkid c.if-s-at.false (sym c.is_ack_reason.ensures ∙ c.if-is_ack_reason.true)

pub returns : goal.returns
returns c =
    let a = c.args in
    reason_bad _ a.s.now a.at a.pkid c.if-s-at.false (sym c.is_ack_reason.ensures ∙ c.if-is_ack_reason.false)
