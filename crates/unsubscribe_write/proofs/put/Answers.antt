-- `unsubscribe_write::put` is right since each field is put behind the one before it. Assumes nothing.
use Rattle.unsubscribe_write.specs.Handed.{handed}
use Rattle.unsubscribe_write.proofs.Laws.{put_frame}
use Rattle.unsubscribe_write.proofs.put.Goals as goal

pub returns : goal.returns
returns c =
    let a = c.args in
    put_frame (handed a.m a.user.now a.user_lengths.now a.topics.now a.topic_lengths.now) a.out.now _ _ _ _ _ _ _ _ _ _ c.rest-len.ensures
    (rw c.first_byte-byte1.ensures at c.put_header-n.ensures) c.after-first.ensures
    c.put.ensures.stores c.after-second.ensures
    c.put_block-third.ensures
    c.put_topics.ensures
