-- `unsubscribe_write::rest` is right since R is the identifier, the block and the topics. Assumes nothing.
use Rattle.unsubscribe_write.specs.Handed.{handed}
use Rattle.unsubscribe_write.proofs.Laws.{unsubscribe_rest}
use Rattle.unsubscribe_write.proofs.rest.Goals as goal

pub returns : goal.returns
returns c =
    let a = c.args in
    unsubscribe_rest (handed a.m a.user.now a.user_lengths.now a.topics.now a.topic_lengths.now) _ _ _ _ _ c.pairs_size.ensures c.with_length-block.ensures c.topics_size.ensures c.add.ensures c.add-2.ensures
