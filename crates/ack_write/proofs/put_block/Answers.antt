-- `ack_write::put_block` is right since the properties are put behind the reason. Assumes nothing.
use Rattle.write_ack_properties.proofs.Laws.{rows_small}
use Rattle.records.specs.AsNumbers.{told_ack_kind}
use Rattle.ack_write.specs.Handed.{handed}
use Rattle.ack_write.proofs.Laws.{put_behind}
use Rattle.ack_write.proofs.put_block.Goals as goal

pub returns : goal.returns
returns c =
    let a = c.args in
    put_behind (told_ack_kind a.m.kind) (handed a.m a.reason_string.now a.user.now a.user_lengths.now) a.out.now _ _ a.at _ _ c.put_reason.ensures c.after-next.ensures (rows_small _ _ c.put_rows.ensures)
