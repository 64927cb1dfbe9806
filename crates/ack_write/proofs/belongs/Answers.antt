-- `ack_write::belongs` is right since only its block can fail to belong together. Assumes nothing.
use Rattle.records.specs.AsNumbers.{told_ack_kind}
use Rattle.ack_write.specs.Handed.{handed}
use Rattle.ack_write.proofs.Laws.{belong_all}
use Rattle.ack_write.proofs.belongs.Goals as goal

pub returns : goal.returns
returns c =
    let a = c.args in
    belong_all (told_ack_kind a.m.kind) (handed a.m a.reason_string.now a.user.now a.user_lengths.now) c.rows_belong.ensures
