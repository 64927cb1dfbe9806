-- `ack_write::write` is right since the order is settled from what is found, and only then is the frame put. Assumes nothing.
use mathlib.Core.Path.{◌∙◌}
use Rattle.writing.specs.Handed.{ack}
use Rattle.records.specs.AsNumbers.{limit_of, told_ack_kind}
use Rattle.write_order.proofs.Laws.{settled_found, none_handed_on, frame_written}
use Rattle.ack_write.specs.Handed.{handed}
use Rattle.ack_write.proofs.Laws.{ack_after_limit}
use Rattle.ack_write.proofs.write.Goals as goal

pub returns-in_err-n : goal.returns-in_err-n
returns-in_err-n c =
    let a = c.args in
    none_handed_on (limit_of a.limit) (ack (told_ack_kind a.m.kind) (handed a.m a.reason_string.now a.user.now a.user_lengths.now)) a.out.now _ _ c.from_residual.ensures.1
    (c.in_err-n.ensures ∙ settled_found (limit_of a.limit) _ (ack (told_ack_kind a.m.kind) (handed a.m a.reason_string.now a.user.now a.user_lengths.now)) (record { early = c.before_size-fields.ensures; rest = c.rest-len.ensures; late = ack_after_limit (told_ack_kind a.m.kind) (handed a.m a.reason_string.now a.user.now a.user_lengths.now) }))

pub returns : goal.returns
returns c =
    let a = c.args in
    frame_written (limit_of a.limit) (ack (told_ack_kind a.m.kind) (handed a.m a.reason_string.now a.user.now a.user_lengths.now)) a.out.now _
    (c.in_ok-n.ensures ∙ settled_found (limit_of a.limit) _ (ack (told_ack_kind a.m.kind) (handed a.m a.reason_string.now a.user.now a.user_lengths.now)) (record { early = c.before_size-fields.ensures; rest = c.rest-len.ensures; late = ack_after_limit (told_ack_kind a.m.kind) (handed a.m a.reason_string.now a.user.now a.user_lengths.now) })) _ c.put.ensures
