-- `c_read::item::ecch_user_property` is right since what is returned and stored is of the answer that `user_item` gives. Assumes nothing.
use mathlib.Core.Path.{◌∙◌}
use Rattle.c_read.proofs.item.ecch_user_property.Goals as goal

pub returns : goal.returns
returns c = record { number = c.store_user.ensures.number ∙ rw c.user_item-found.ensures; stored = c.store_user.ensures.stored ∙ rw c.user_item-found.ensures }
