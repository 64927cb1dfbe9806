-- `write_tests::test_text` is right since a text that is on is tested as one, and one that is off has no field. Assumes nothing.
use Rattle.writing.specs.Order.{judge}
use Rattle.write_tests.proofs.test_text.Goals as goal

pub returns : goal.returns
unfolding judge
returns c = rw c.if-on.false
