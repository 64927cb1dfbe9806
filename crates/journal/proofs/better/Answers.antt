-- `journal::better` is right since its tests are the definition's. Assumes nothing.
use mathlib.Core.Path.{sym, ◌∙◌}
use native.Mathlib.Omega.{arith}
use Rattle.journal.proofs.Finding.{newer_taken, newer_bad, newer_less}
use Rattle.journal.proofs.better.Goals as goal
use Rattle.journal.proofs.better.Goals.{else-highest-number_of-via-then-highest-number_of+else-is_good, else-highest-number_of-via-else-highest-number_of}

pub returns-then-is_good : goal.returns-then-is_good
returns-then-is_good c = newer_taken _ _ (omega (arith, c.highest.ensures, c.number_of.ensures, c.if-highest-number_of.true)) (sym c.is_good.ensures ∙ c.if-is_good.true)

pub returns : goal.returns
returns c =
    elim c.else-highest-number_of.branch [
      | else-highest-number_of-via-then-highest-number_of+else-is_good w ↦ newer_bad _ _ (sym w.is_good.ensures ∙ w.if-is_good.false)
      | else-highest-number_of-via-else-highest-number_of w ↦ newer_less _ _ (omega (arith, c.highest.ensures, c.number_of.ensures, w.if-highest-number_of.false))
    ]
