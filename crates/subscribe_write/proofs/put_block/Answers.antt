-- `subscribe_write::put_block` is right since each row is put behind the one before it. Assumes nothing.
use Rattle.subscribe_write.specs.Handed.{handed}
use Rattle.subscribe_write.proofs.Laws.{put_rows}
use Rattle.subscribe_write.proofs.put_block.Goals as goal

pub returns : goal.returns
returns c =
    let a = c.args in
    λ fs ns os. put_rows (handed a.m a.user.now a.user_lengths.now fs ns os) a.out.now _ _ _ a.at _ _ _ _ _ _ _ (c.block_length-len.ensures fs ns os)
    c.put_length-n.ensures c.after-first.ensures
    c.put_number_if-k.ensures c.after-second.ensures
    c.put_pairs-j.ensures c.after.ensures
