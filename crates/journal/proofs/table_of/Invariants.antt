use Prim.Native.Nat.{◌-◌}
use Rattle.inflight.specs.Rules.{limit}
use Rattle.journal.specs.Block.{wait_in}
use Rattle.journal.proofs.Turns.{Filled}
use Rattle.journal.proofs.table_of.Given as goal

abbrev pub invariant-loop-i : goal.invariant-loop-i
invariant-loop-i l = Filled (wait_in l.b) l.table l.i

abbrev pub decreases-loop-i : goal.decreases-loop-i
decreases-loop-i l = limit - l.i
