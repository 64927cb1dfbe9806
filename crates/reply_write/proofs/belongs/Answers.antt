-- `reply_write::belongs` is right since only its block can fail to belong together. Assumes nothing.
use Rattle.records.specs.AsNumbers.{told_reply_kind}
use Rattle.reply_write.specs.Handed.{handed}
use Rattle.reply_write.proofs.Laws.{belong_all}
use Rattle.reply_write.proofs.belongs.Goals as goal

pub returns : goal.returns
returns c =
    let a = c.args in
    belong_all (told_reply_kind a.m.kind) (handed a.m a.reason_string.now a.user.now a.user_lengths.now a.reasons.now) c.rows_belong.ensures
