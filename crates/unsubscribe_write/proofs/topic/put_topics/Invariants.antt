use Prim.Native.Nat.{◌+◌, ◌*◌, ◌≤◌}
use lib.ListN.{length}
use Rattle.writing.specs.Lists.{flat}
use Rattle.writing.specs.Handed.{strings}
use Rattle.writing.proofs.ForCode.{run_from}
use Rattle.write_runs.specs.Given.{run}
use Rattle.write_strings.specs.Fitting.{fit_string}
use Rattle.write_properties.proofs.Laws.{Putting}
use Rattle.unsubscribe_write.proofs.topic.put_topics.Given as goal

abbrev pub invariant-loop-k : goal.invariant-loop-k
invariant-loop-k l =
    Putting l.initial.out l.at (flat fit_string (strings (run l.bytes l.lengths))) l.out l.n (flat fit_string (strings (run_from (run l.bytes l.lengths) l.k-index l.from)))
    × (l.n ≤ l.from + 2 * l.k-index) × (l.from ≤ length l.bytes)
