-- `c_read::next::ecch_next_topic` is right since what is returned and stored is of the answer that `topic_up_to` gives. Assumes nothing.
use mathlib.Core.Path.{◌∙◌}
use Rattle.c_read.proofs.next.ecch_next_topic.Goals as goal

pub returns : goal.returns
returns c = record { number = c.store_next_topic.ensures.number ∙ rw c.topic_up_to-found.ensures; stored = c.store_next_topic.ensures.stored ∙ rw c.topic_up_to-found.ensures }
