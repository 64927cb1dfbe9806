use Prim.Native.Nat.{◌-◌}
use Rattle.inflight.specs.Rules.{limit}
use Rattle.inflight.specs.TableAnswer.{waits_of}
use Rattle.journal.specs.Block.{packed_at}
use Rattle.journal.proofs.Turns.{Marked}
use Rattle.journal.proofs.put_marks.Given as goal

abbrev pub invariant-loop-j : goal.invariant-loop-j
invariant-loop-j l = Marked (packed_at (waits_of l.table)) l.initial.out l.out l.j

abbrev pub decreases-loop-j : goal.decreases-loop-j
decreases-loop-j l = limit - l.j
