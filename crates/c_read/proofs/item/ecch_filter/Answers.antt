-- `c_read::item::ecch_filter` is right since what is returned and stored is of the answer that `filter` gives. Assumes nothing.
use mathlib.Core.Path.{◌∙◌}
use Rattle.c_read.proofs.item.ecch_filter.Goals as goal

pub returns : goal.returns
returns c = record { number = c.store_filter.ensures.number ∙ rw c.filter-found.ensures; stored = c.store_filter.ensures.stored ∙ rw c.filter-found.ensures }
