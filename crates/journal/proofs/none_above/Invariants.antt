use Prim.Native.Nat.{◌-◌}
use Rattle.journal.specs.Block.{wait_in}
use Rattle.journal.proofs.Turns.{Above}
use Rattle.journal.proofs.none_above.Given as goal

abbrev pub invariant-loop-i : goal.invariant-loop-i
invariant-loop-i l = Above (wait_in l.b) l.i

abbrev pub decreases-loop-i : goal.decreases-loop-i
decreases-loop-i l = 1024 - l.i
