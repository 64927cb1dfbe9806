use mathlib.Core.Path.{sym, ◌∙◌}
use Rattle.journal.proofs.Turns.{bad_check, bad_zeros, bad_number, good_above}
use Rattle.journal.proofs.is_good.Goals as goal

pub returns-then-not-check_right : goal.returns-then-not-check_right
returns-then-not-check_right c = bad_check _ (sym c.check_right.ensures ∙ c.if-not-check_right.true)

pub returns-then-not-zeros_right : goal.returns-then-not-zeros_right
returns-then-not-zeros_right c = bad_zeros _ (sym c.check_right.ensures ∙ c.if-not-check_right.false) (sym c.zeros_right.ensures ∙ c.if-not-zeros_right.true)

pub returns-then-number_of-eq0 : goal.returns-then-number_of-eq0
returns-then-number_of-eq0 c =
    bad_number _ (sym c.check_right.ensures ∙ c.if-not-check_right.false) (sym c.zeros_right.ensures ∙ c.if-not-zeros_right.false)
    (sym c.number_of.ensures ∙ c.if-number_of-eq0.true)

pub returns : goal.returns
returns c =
    good_above _ (sym c.check_right.ensures ∙ c.if-not-check_right.false) (sym c.zeros_right.ensures ∙ c.if-not-zeros_right.false)
    (λ e. c.if-number_of-eq0.false (c.number_of.ensures ∙ e)) c.none_above.ensures
