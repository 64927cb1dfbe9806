use Prim.Native.Nat.{◌+◌, ◌*◌, ◌-◌, ◌≤◌}
use lib.ListN.{length}
use Rattle.grammar.specs.Tables.{pair}
use Rattle.writing.specs.Handed.{pairs}
use Rattle.writing.proofs.ForCode.{run_from}
use Rattle.write_runs.specs.Given.{run}
use Rattle.write_properties.specs.Fitting.{fit_row}
use Rattle.write_properties.proofs.Laws.{Putting}
use Rattle.write_lists.proofs.cut_pairs.Given as goal

abbrev pub invariant-loop-i : goal.invariant-loop-i
invariant-loop-i l =
    Putting l.initial.out l.at (fit_row (38, pair) (pairs (run_from (run l.bytes l.lengths) l.first l.start))) l.out l.n (fit_row (38, pair) (pairs (run_from (run l.bytes l.lengths) l.i l.from)))
    × (2 * l.n + (2 * l.start + 5 * l.first) ≤ 2 * l.from + 5 * l.i) × (l.from ≤ length l.bytes) × (l.i ≤ length l.lengths)

abbrev pub decreases-loop-i : goal.decreases-loop-i
decreases-loop-i l = length l.lengths - l.i
