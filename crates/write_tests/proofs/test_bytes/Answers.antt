-- `write_tests::test_bytes` is right since bytes that are on are one field, and those that are off none. Assumes nothing.
use Rattle.writing.specs.Order.{judge}
use Rattle.write_tests.proofs.test_bytes.Goals as goal

pub returns : goal.returns
unfolding judge
returns c = rw c.if-on.false
