use Prim.Native.Nat.{◌+◌, ◌*◌, ◌≤◌}
use lib.ListN.{length, drop}
use Rattle.writing.specs.Lists.{flat, beside}
use Rattle.writing.specs.Handed.{strings, filters_of}
use Rattle.writing.proofs.ForCode.{run_from}
use Rattle.write_runs.specs.Given.{run}
use Rattle.write_properties.proofs.Laws.{Putting}
use Rattle.subscribe_write.specs.Fitting.{fit_filter}
use Rattle.subscribe_write.proofs.filter.put_filters.Given as goal

abbrev pub invariant-loop-k : goal.invariant-loop-k
invariant-loop-k l =
    let i = length l.yielded in
    Putting l.initial.out l.at (flat fit_filter (filters_of (run l.bytes l.lengths) l.options)) l.out l.n (flat fit_filter (beside (strings (run_from (run l.bytes l.lengths) i l.from)) (drop i l.options)))
    × (l.n ≤ l.from + 3 * i) × (l.from ≤ length l.bytes)
