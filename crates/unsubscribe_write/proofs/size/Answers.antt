-- `unsubscribe_write::size` is right since what it hands on is whether all belongs together, and R. Assumes nothing.
use mathlib.Core.Path.{◌∙◌}
use Rattle.writing.specs.Handed.{unsubscribe}
use Rattle.write_order.proofs.Laws.{sized_found}
use Rattle.unsubscribe_write.specs.Handed.{handed}
use Rattle.unsubscribe_write.proofs.size.Goals as goal

pub returns : goal.returns
returns c =
    let a = c.args in
    c.size.ensures ∙ sized_found (unsubscribe (handed a.m a.user.now a.user_lengths.now a.topics.now a.topic_lengths.now)) _ _ c.belongs.ensures c.rest.ensures
