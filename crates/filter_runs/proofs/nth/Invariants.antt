use Prim.Native.Nat.{◌-◌}
use lib.ListN.{length}
use Rattle.reading.specs.Read.{filter_of}
use Rattle.reading.specs.Place.{as_places}
use Rattle.positions.proofs.Nth.{Counting}
use Rattle.records.specs.Answered.{told_filter_item}
use Rattle.filter_runs.proofs.nth.Given as goal

abbrev pub invariant-loop-i : goal.invariant-loop-i
invariant-loop-i l = Counting (filter_of as_places (length l.s)) l.s l.at l.n (told_filter_item l.item) l.turn l.i

abbrev pub decreases-loop-i : goal.decreases-loop-i
decreases-loop-i l = length l.s - l.i
