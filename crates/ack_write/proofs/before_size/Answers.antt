-- `ack_write::before_size` is right since the fields are tested in the order in which they are written. Assumes nothing.
use mathlib.Core.Path.{refl}
use Rattle.records.specs.AsNumbers.{told_ack_kind}
use Rattle.records.proofs.Laws.{handed_on}
use Rattle.ack_write.specs.Handed.{handed}
use Rattle.ack_write.proofs.Laws.{before_size_all}
use Rattle.ack_write.proofs.before_size.Goals as goal

pub returns-in_err-test_reason : goal.returns-in_err-test_reason
returns-in_err-test_reason c =
    let a = c.args in
    handed_on _ _ _ c.from_residual.ensures.1 (before_size_all (told_ack_kind a.m.kind) (handed a.m a.reason_string.now a.user.now a.user_lengths.now) c.belongs.ensures c.if-not-belongs.false c.in_err-test_reason.ensures refl refl)

pub returns : goal.returns
returns c =
    let a = c.args in
    before_size_all (told_ack_kind a.m.kind) (handed a.m a.reason_string.now a.user.now a.user_lengths.now) c.belongs.ensures c.if-not-belongs.false c.in_ok-test_reason.ensures c.test_rows.ensures refl
