-- `write_tests::test_number` is right since a number is compared with the largest that four bytes spell. Assumes nothing.
use native.Mathlib.Omega.{arith}
use Rattle.writing.specs.Order.{judge}
use Rattle.write_tests.proofs.Laws.{number_large, number_zero, number_fine}
use Rattle.write_tests.proofs.test_number.Goals as goal

pub returns-then-n-gt-MOST : goal.returns-then-n-gt-MOST
returns-then-n-gt-MOST c = rw c.in-Some.is (number_large c.in-Some.n (omega arith))

pub returns-then-n-eq0 : goal.returns-then-n-eq0
returns-then-n-eq0 c = rw c.in-Some.is (number_zero c.in-Some.n c.if-n-eq0.true)

pub returns-in-None : goal.returns-in-None
unfolding judge
returns-in-None c = rw c.in-None.is

pub returns-else-n-eq0 : goal.returns-else-n-eq0
returns-else-n-eq0 c = rw c.in-Some.is (number_fine c.in-Some.n (omega arith) c.if-n-eq0.false)
