-- `c_read::item::ecch_subscription_identifier` is right since what is returned and stored is of the answer that `subscription_identifier` gives. Assumes nothing.
use mathlib.Core.Path.{◌∙◌}
use Rattle.c_read.proofs.item.ecch_subscription_identifier.Goals as goal

pub returns : goal.returns
returns c = record { number = c.store_identifier.ensures.number ∙ rw c.subscription_identifier-found.ensures; stored = c.store_identifier.ensures.stored ∙ rw c.subscription_identifier-found.ensures }
