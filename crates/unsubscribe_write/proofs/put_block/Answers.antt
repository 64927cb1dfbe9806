-- `unsubscribe_write::put_block` is right since the user properties are put behind L. Assumes nothing.
use Rattle.write_runs.specs.Given.{run}
use Rattle.unsubscribe_write.proofs.Laws.{put_rows}
use Rattle.unsubscribe_write.proofs.put_block.Goals as goal

pub returns : goal.returns
returns c =
    let a = c.args in
    put_rows (run a.user.now a.user_lengths.now) a.out.now _ _ a.at _ _ _ _ _ c.pairs_size-len.ensures
    c.put_length-n.ensures c.after-first.ensures
    c.put_pairs-j.ensures c.after.ensures
