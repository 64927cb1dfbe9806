-- `c_read::item::ecch_reason` is right since what is returned and stored is of the answer that `reason_item` gives. Assumes nothing.
use mathlib.Core.Path.{◌∙◌}
use Rattle.c_read.proofs.item.ecch_reason.Goals as goal

pub returns : goal.returns
returns c = record { number = c.store_reason.ensures.number ∙ rw c.reason_item-found.ensures; stored = c.store_reason.ensures.stored ∙ rw c.reason_item-found.ensures }
