-- `reply_write::test_reason` is right since its test is the one that is judged. Assumes nothing.
use mathlib.Core.Path.{sym, ◌∙◌}
use Rattle.writing.specs.Order.{judge}
use Rattle.reply_write.proofs.test_reason.Goals as goal

pub returns-then-is_reply_reason : goal.returns-then-is_reply_reason
unfolding judge
returns-then-is_reply_reason c = rw (sym c.is_reply_reason.ensures ∙ c.if-is_reply_reason.true)

pub returns : goal.returns
unfolding judge
returns c = rw (sym c.is_reply_reason.ensures ∙ c.if-is_reply_reason.false)
