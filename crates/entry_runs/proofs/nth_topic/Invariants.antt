use Prim.Native.Nat.{◌-◌}
use lib.ListN.{length}
use Rattle.reading.specs.Read.{text_of}
use Rattle.reading.specs.Place.{as_places}
use Rattle.records.specs.Answered.{told_topic_item}
use Rattle.positions.proofs.Nth.{Counting}
use Rattle.entry_runs.proofs.nth_topic.Given as goal

abbrev pub invariant-loop-i : goal.invariant-loop-i
invariant-loop-i l = Counting (text_of as_places (length l.s)) l.s l.at l.n (told_topic_item l.item) l.turn l.i

abbrev pub decreases-loop-i : goal.decreases-loop-i
decreases-loop-i l = length l.s - l.i
