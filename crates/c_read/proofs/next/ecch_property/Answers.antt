-- `c_read::next::ecch_property` is right since what is returned and stored is of the answer that `property_up_to` gives. Assumes nothing.
use mathlib.Core.Path.{◌∙◌}
use Rattle.c_read.proofs.next.ecch_property.Goals as goal

pub returns : goal.returns
returns c = record { number = c.store_property.ensures.number ∙ rw c.property_up_to-found.ensures.says; stored = c.store_property.ensures.stored ∙ rw c.property_up_to-found.ensures.says }
