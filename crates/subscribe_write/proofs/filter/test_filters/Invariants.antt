use mathlib.Core.List.{map}
use lib.ListN.{length, drop}
use Rattle.writing.specs.Lists.{beside}
use Rattle.writing.specs.Handed.{strings, filters_of}
use Rattle.writing.specs.Order.{filter_field}
use Rattle.writing.proofs.ForCode.{run_from}
use Rattle.write_runs.specs.Given.{run}
use Rattle.write_tests.proofs.Laws.{Deciding}
use Rattle.subscribe_write.proofs.filter.test_filters.Given as goal

abbrev pub invariant-loop-n : goal.invariant-loop-n
invariant-loop-n l =
    let i = length l.yielded in
    Deciding (map filter_field (filters_of (run l.bytes l.lengths) l.options)) (map filter_field (beside (strings (run_from (run l.bytes l.lengths) i l.at)) (drop i l.options)))
