-- `items::subscription_identifier` is right since in the row of a Publish property 11 is a number. Assumes nothing.
use borrow.Enum.Refused.{opened}
use mathlib.Core.List.{[], ◌∷◌}
use Rattle.grammar.specs.Tables.{number, publish_row}
use Rattle.reading.specs.Place.{subscription_at}
use Rattle.items.proofs.Laws.{not_other}
use Rattle.items.proofs.subscription_identifier.Goals as goal

pub returns-in-Number : goal.returns-in-Number
unfolding subscription_at
returns-in-Number c =
    (rw (c.in-At.is, c.in-Number.is) at c.nth_value.ensures).says

pub returns-in-Left : goal.returns-in-Left
unfolding subscription_at
returns-in-Left c = (rw c.in-Left.is at c.nth_value.ensures).says

pub returns-in_default : goal.returns-in_default
unfolding publish_row
returns-in_default c =
    let r = rw c.in-At.is at c.nth_value.ensures in
    absurd (not_other number (0 ∷ 1 ∷ 2 ∷ 4 ∷ 5 ∷ 6 ∷ []) tt c.in-At.v r.formed (opened c.in_default.in_default-own.keys2))
