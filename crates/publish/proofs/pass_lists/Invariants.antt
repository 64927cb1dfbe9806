use Prim.Native.Nat.{◌-◌}
use lib.ListN.{length}
use Rattle.publish.specs.Singles.{ListsPassed}
use Rattle.publish.proofs.pass_lists.Given as goal

abbrev pub invariant-loop-at : goal.invariant-loop-at
invariant-loop-at l = ListsPassed l.s l.from l.at

abbrev pub decreases-loop-at : goal.decreases-loop-at
decreases-loop-at l = length l.s - l.at
