-- `reply_write::before_size` is right since the fields are tested in the order in which they are written. Assumes nothing.
use mathlib.Core.Path.{refl}
use Rattle.records.specs.AsNumbers.{told_reply_kind}
use Rattle.records.proofs.Laws.{handed_on}
use Rattle.reply_write.specs.Handed.{handed}
use Rattle.reply_write.proofs.Laws.{before_size_all}
use Rattle.reply_write.proofs.before_size.Goals as goal

pub returns-in_err-test_rows : goal.returns-in_err-test_rows
returns-in_err-test_rows c =
    let a = c.args in
    handed_on _ _ _ c.from_residual.ensures.1 (before_size_all (told_reply_kind a.m.kind) (handed a.m a.reason_string.now a.user.now a.user_lengths.now a.reasons.now) c.belongs.ensures c.if-not-belongs.false c.in_err-test_rows.ensures refl refl)

pub returns : goal.returns
returns c =
    let a = c.args in
    before_size_all (told_reply_kind a.m.kind) (handed a.m a.reason_string.now a.user.now a.user_lengths.now a.reasons.now) c.belongs.ensures c.if-not-belongs.false c.in_ok-test_rows.ensures c.test_reasons.ensures refl
