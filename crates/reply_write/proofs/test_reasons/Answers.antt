-- `reply_write::test_reasons` is right since the reasons from the i-th on decide. Assumes nothing.
use Rattle.grammar.specs.Tables.{reasons_of}
use Rattle.records.specs.AsNumbers.{told_reply_kind}
use Rattle.records.proofs.Laws.{handed_on}
use Rattle.write_tests.proofs.Laws.{field_refused, field_passed, fields_done}
use Rattle.reply_write.proofs.Laws.{reasons_cut, reasons_done}
use Rattle.reply_write.proofs.test_reasons.Goals as goal

pub returns-in_err-test_reason : goal.returns-in_err-test_reason
returns-in_err-test_reason c =
    let a = c.args in
    let l = c.loop-reason in
    handed_on _ _ _ c.from_residual.ensures.1 (field_refused l.invariant _ _ (reasons_cut (reasons_of (told_reply_kind a.kind)) a.reasons.now l.reason-index c.loop-reason-test.true) _ c.in_err-test_reason.ensures)

pub loop-reason-preserved : goal.loop-reason-preserved
loop-reason-preserved c =
    let a = c.args in
    let l = c.loop-reason in
    field_passed l.invariant _ _ (reasons_cut (reasons_of (told_reply_kind a.kind)) a.reasons.now l.reason-index c.loop-reason-test.true) c.in_ok-test_reason.ensures

pub returns : goal.returns
returns c =
    let a = c.args in
    let l = c.loop-reason in
    fields_done l.invariant (reasons_done (reasons_of (told_reply_kind a.kind)) a.reasons.now l.reason-index c.loop-reason-test.false)
