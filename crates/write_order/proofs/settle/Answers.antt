-- `write_order::settle` is right since each test is made in its turn, and what is found stands for the tests of a kind. Assumes nothing.
use mathlib.Core.Path.{ap, ◌∙◌}
use native.Mathlib.Omega.{arith}
use Rattle.records.specs.AsNumbers.{limit_of}
use Rattle.records.proofs.Laws.{handed_on}
use Rattle.write_tests.specs.Tested.{told_tested}
use Rattle.write_order.proofs.Laws.{before_size_bad, rest_long, limit_bad, after_limit_bad, after_limit_fine}
use Rattle.write_order.proofs.settle.Goals as goal

pub returns-in_err-early : goal.returns-in_err-early
returns-in_err-early c =
    let a = c.args in
    handed_on _ _ _ c.from_residual.ensures.1 (before_size_bad (limit_of a.limit) a.room _ (told_tested a.late) a.rest _ (ap told_tested c.in_err-early.was))

pub returns-then-rest-gt-MOST : goal.returns-then-rest-gt-MOST
returns-then-rest-gt-MOST c =
    let a = c.args in
    rest_long (limit_of a.limit) a.room _ (told_tested a.late) a.rest (ap told_tested c.in_ok-early.was) (omega arith)

pub returns-in_err-within : goal.returns-in_err-within
returns-in_err-within c =
    let a = c.args in
    handed_on _ _ _ c.from_residual-in_err-within.ensures.1 (limit_bad (limit_of a.limit) a.room _ (told_tested a.late) a.rest (ap told_tested c.in_ok-early.was) c.if-rest-gt-MOST.false _ c.frame_size-size.ensures _ c.in_err-within.ensures)

pub returns-in_err-late : goal.returns-in_err-late
returns-in_err-late c =
    let a = c.args in
    handed_on _ _ _ c.from_residual-in_err-late.ensures.1 (after_limit_bad (limit_of a.limit) a.room _ (told_tested a.late) a.rest (ap told_tested c.in_ok-early.was) c.if-rest-gt-MOST.false _ c.frame_size-size.ensures c.in_ok-within.ensures _ (ap told_tested c.in_err-late.was))

pub returns : goal.returns
returns c =
    let a = c.args in
    c.fit.ensures ∙ after_limit_fine (limit_of a.limit) a.room _ (told_tested a.late) a.rest (ap told_tested c.in_ok-early.was) c.if-rest-gt-MOST.false _ c.frame_size-size.ensures c.in_ok-within.ensures (ap told_tested c.in_ok-late.was)
