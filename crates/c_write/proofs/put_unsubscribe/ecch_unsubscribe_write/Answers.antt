-- `c_write::put_unsubscribe::ecch_unsubscribe_write` is right since the head is what is handed over, and what is returned and stored is of the answer that the writer gives. Assumes nothing.
use mathlib.Core.Path.{ap}
use Rattle.writing.specs.Handed.{unsubscribe}
use Rattle.c_write.proofs.Laws.{written_by}
use Rattle.c_write.proofs.put_unsubscribe.ecch_unsubscribe_write.Goals as goal

pub returns : goal.returns
returns c =
    let a = c.args in
    let all = written_by _ _ (c.store_written.ensures.number, c.store_written.ensures.stored) c.bound.ensures (ap unsubscribe (c.unsubscribe_head-head.ensures a.user.now a.user_lengths.now a.topics.now a.topic_lengths.now)) c.write-written.ensures in
    record { number = all.0; output = all.1.0; stored = all.1.1 }
