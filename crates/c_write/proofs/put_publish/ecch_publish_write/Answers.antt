-- `c_write::put_publish::ecch_publish_write` is right since what is returned and stored is of the answer that `write_publish` gives. Assumes nothing.
use mathlib.Core.Path.{ap}
use Rattle.c_heads.specs.By.{behind}
use Rattle.c_write.proofs.Laws.{behind_by}
use Rattle.c_write.proofs.put_publish.ecch_publish_write.Goals as goal

pub returns : goal.returns
returns c =
    let a = c.args in
    let all = behind_by _ a.out.now (c.store_written.ensures.number, c.store_written.ensures.stored) c.bound.ensures (ap behind (c.publish_head-by.ensures a.topic.now a.response.now a.correlation.now a.user.now a.user_lengths.now a.identifiers.now a.content.now a.payload.now)) c.write_publish-written.ensures in
    record { number = all.0; output = all.1.0; stored = all.1.1 }
