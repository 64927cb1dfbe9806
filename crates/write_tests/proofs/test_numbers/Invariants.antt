use Rattle.write_tests.proofs.Lists.{Left}
use Rattle.write_tests.proofs.test_numbers.Given as goal

abbrev pub invariant-loop-n : goal.invariant-loop-n
invariant-loop-n l = Left l.ids l.n-index
