-- `items::user_property` is right since in every row property 38 is a pair. Assumes nothing.
use borrow.Enum.Refused.{opened}
use mathlib.Core.Path.{◌∙◌}
use mathlib.Core.List.{[], ◌∷◌}
use Rattle.grammar.specs.Tables.{pair}
use Rattle.reading.specs.Place.{user_at}
use Rattle.items.proofs.Laws.{not_other, user_form}
use Rattle.items.proofs.user_property.Goals as goal

pub returns-in-Pair : goal.returns-in-Pair
unfolding user_at
returns-in-Pair c =
    (rw (c.in-At.is, c.in-Pair.is) at c.nth_value.ensures).says

pub returns-in-Left : goal.returns-in-Left
unfolding user_at
returns-in-Left c = (rw c.in-Left.is at c.nth_value.ensures).says

pub returns-in_default : goal.returns-in_default
returns-in_default c =
    let r = rw c.in-At.is at c.nth_value.ensures in
    absurd (not_other pair (0 ∷ 1 ∷ 2 ∷ 3 ∷ 4 ∷ 5 ∷ []) tt c.in-At.v (user_form c.args.row ∙ r.formed) (opened c.in_default.in_default-own.keys2))
