-- `unsubscribe_write::belongs` is right since all belongs together exactly if the user properties and the topics do. Assumes nothing.
use Rattle.unsubscribe_write.specs.Handed.{handed}
use Rattle.unsubscribe_write.proofs.Laws.{belong_all}
use Rattle.unsubscribe_write.proofs.belongs.Goals as goal

pub returns : goal.returns
returns c =
    let a = c.args in
    belong_all (handed a.m a.user.now a.user_lengths.now a.topics.now a.topic_lengths.now) c.pairs_belong.ensures c.adds_up.ensures c.both.ensures
