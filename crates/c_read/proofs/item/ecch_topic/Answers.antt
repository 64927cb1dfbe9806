-- `c_read::item::ecch_topic` is right since what is returned and stored is of the answer that `topic` gives. Assumes nothing.
use mathlib.Core.Path.{◌∙◌}
use Rattle.c_read.proofs.item.ecch_topic.Goals as goal

pub returns : goal.returns
returns c = record { number = c.store_topic.ensures.number ∙ rw c.topic-found.ensures; stored = c.store_topic.ensures.stored ∙ rw c.topic-found.ensures }
