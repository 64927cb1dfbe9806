-- `unsubscribe_write::topic::test_asked` is right since a topic has a length. Assumes nothing.
use Rattle.unsubscribe_write.proofs.Topics.{some_asked}
use Rattle.unsubscribe_write.proofs.topic.test_asked.Goals as goal

pub returns : goal.returns
returns c = λ run. some_asked run c.args.lengths.now c.if-lengths-eq0.false
