use mathlib.Core.List.{map}
use Rattle.writing.specs.Handed.{strings}
use Rattle.writing.specs.Order.{word}
use Rattle.writing.proofs.ForCode.{run_from}
use Rattle.write_runs.specs.Given.{run}
use Rattle.write_tests.proofs.Laws.{Deciding}
use Rattle.write_tests.proofs.test_each.Given as goal

abbrev pub invariant-loop-n : goal.invariant-loop-n
invariant-loop-n l = Deciding (map word (strings (run l.bytes l.lengths))) (map word (strings (run_from (run l.bytes l.lengths) l.n-index l.at)))
