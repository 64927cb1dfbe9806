-- `c_read::next::ecch_next_filter` is right since what is returned and stored is of the answer that `filter_up_to` gives. Assumes nothing.
use mathlib.Core.Path.{◌∙◌}
use Rattle.c_read.proofs.next.ecch_next_filter.Goals as goal

pub returns : goal.returns
returns c = record { number = c.store_next_filter.ensures.number ∙ rw c.filter_up_to-found.ensures; stored = c.store_next_filter.ensures.stored ∙ rw c.filter_up_to-found.ensures }
