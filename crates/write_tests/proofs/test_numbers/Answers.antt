-- `write_tests::test_numbers` is right since the numbers from the i-th on decide. Assumes nothing.
use Rattle.records.proofs.Laws.{handed_on}
use Rattle.write_tests.proofs.Lists.{number_refused, number_passed, numbers_done}
use Rattle.write_tests.proofs.test_numbers.Goals as goal

pub returns-in_err-test_number : goal.returns-in_err-test_number
returns-in_err-test_number c =
    handed_on _ _ _ c.from_residual.ensures.1 (number_refused _ _ c.loop-n.invariant c.loop-n-test.true _ c.in_err-test_number.ensures)

pub loop-n-preserved : goal.loop-n-preserved
loop-n-preserved c = number_passed _ _ c.loop-n.invariant c.loop-n-test.true c.in_ok-test_number.ensures

pub returns : goal.returns
returns c = numbers_done _ _ c.loop-n.invariant c.loop-n-test.false
