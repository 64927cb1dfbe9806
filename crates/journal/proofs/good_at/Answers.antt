-- `journal::good_at` is right since each test of it is the definition's. Assumes nothing.
use mathlib.Core.Path.{sym, ◌∙◌}
use Rattle.journal.proofs.Finding.{bad_says, look_bad, look_good, look_not, look_past}
use Rattle.journal.proofs.good_at.Goals as goal
use Rattle.journal.proofs.good_at.Goals.{else-i-blocks-via-then-i-blocks+else-is_good, else-i-blocks-via-else-i-blocks}

pub returns-in_err-blocks : goal.returns-in_err-blocks
returns-in_err-blocks c = bad_says _ c.from_residual.ensures.1 ∙ look_bad _ _ c.in_err-blocks.ensures

pub returns-then-is_good : goal.returns-then-is_good
returns-then-is_good c = look_good _ _ c.in_ok-blocks.ensures.0 c.in_ok-blocks.ensures.1 c.if-i-blocks.true (sym c.is_good.ensures ∙ c.if-is_good.true)

pub returns : goal.returns
returns c =
    elim c.else-i-blocks.branch [
      | else-i-blocks-via-then-i-blocks+else-is_good w ↦ look_not _ _ c.in_ok-blocks.ensures.0 c.in_ok-blocks.ensures.1 w.if-i-blocks.true (sym w.is_good.ensures ∙ w.if-is_good.false)
      | else-i-blocks-via-else-i-blocks w ↦ look_past _ _ c.in_ok-blocks.ensures.0 c.in_ok-blocks.ensures.1 w.if-i-blocks.false
    ]
