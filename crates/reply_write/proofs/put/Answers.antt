-- `reply_write::put` is right since each field is put behind the one before it. Assumes nothing.
use Rattle.write_ack_properties.proofs.Laws.{rows_small}
use Rattle.records.specs.AsNumbers.{told_reply_kind}
use Rattle.reply_write.specs.Handed.{handed}
use Rattle.reply_write.proofs.Laws.{put_frame}
use Rattle.reply_write.proofs.put.Goals as goal

pub returns : goal.returns
returns c =
    let a = c.args in
    put_frame (told_reply_kind a.m.kind) (handed a.m a.reason_string.now a.user.now a.user_lengths.now a.reasons.now) a.out.now _ _ _ _ _ _ _ _ _ _ c.first_byte-byte1.ensures c.rest-len.ensures
    c.put_header-n.ensures c.after-first.ensures
    c.put.ensures.stores c.after-second.ensures
    (rows_small _ _ c.put_rows-third.ensures)
    c.put_bytes.ensures
