-- `reply_write::rest` is right since R is the identifier, the block and the reasons. Assumes nothing.
use Rattle.records.specs.AsNumbers.{told_reply_kind}
use Rattle.reply_write.specs.Handed.{handed}
use Rattle.reply_write.proofs.Laws.{reply_rest}
use Rattle.reply_write.proofs.rest.Goals as goal

pub returns : goal.returns
returns c =
    let a = c.args in
    reply_rest (told_reply_kind a.m.kind) (handed a.m a.reason_string.now a.user.now a.user_lengths.now a.reasons.now) _ _ _ _ c.rows_length-len.ensures c.with_length.ensures c.add.ensures c.add-2.ensures
