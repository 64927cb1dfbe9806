use Prim.Native.Nat.{◌-◌}
use lib.ListN.{length}
use Rattle.positions.proofs.Runs.{Going}
use Rattle.reading.specs.Read.{text_of}
use Rattle.reading.specs.Place.{as_places}
use Rattle.unsubscribe.proofs.read_topics.Given as goal

abbrev pub invariant-loop-i : goal.invariant-loop-i
invariant-loop-i l = Going (text_of as_places (length l.s)) l.s l.at l.i

abbrev pub decreases-loop-i : goal.decreases-loop-i
decreases-loop-i l = length l.s - l.i
