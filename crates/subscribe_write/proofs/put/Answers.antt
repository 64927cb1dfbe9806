-- `subscribe_write::put` is right since each field is put behind the one before it. Assumes nothing.
use Rattle.subscribe_write.specs.Handed.{handed}
use Rattle.subscribe_write.proofs.Laws.{put_frame}
use Rattle.subscribe_write.proofs.put.Goals as goal

pub returns : goal.returns
returns c =
    let a = c.args in
    put_frame (handed a.m a.user.now a.user_lengths.now a.filters.now a.filter_lengths.now a.options.now) a.out.now _ _ _ _ _ _ _ _ _ _ (c.rest-len.ensures a.filter_lengths.now)
    (rw c.first_byte-byte1.ensures at c.put_header-n.ensures) c.after-first.ensures
    c.put.ensures.stores c.after-second.ensures
    (c.put_block-third.ensures a.filters.now a.filter_lengths.now a.options.now)
    c.put_filters.ensures
