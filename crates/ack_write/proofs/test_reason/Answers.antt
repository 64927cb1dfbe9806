-- `ack_write::test_reason` is right since its test is the one that is judged. Assumes nothing.
use mathlib.Core.Path.{sym, ◌∙◌}
use Rattle.writing.specs.Order.{judge}
use Rattle.ack_write.proofs.test_reason.Goals as goal

pub returns-then-is_ack_reason : goal.returns-then-is_ack_reason
unfolding judge
returns-then-is_ack_reason c = rw (sym c.is_ack_reason.ensures ∙ c.if-is_ack_reason.true)

pub returns : goal.returns
unfolding judge
returns c = rw (sym c.is_ack_reason.ensures ∙ c.if-is_ack_reason.false)
