use Prim.Native.Nat.{◌-◌}
use lib.ListN as list
use Rattle.var_length.proofs.Laws.{Passed}
use Rattle.var_length.proofs.length.Given as goal

abbrev pub invariant-loop-next : goal.invariant-loop-next
invariant-loop-next l = Passed l.s l.at l.value l.unit l.next

abbrev pub decreases-loop-next : goal.decreases-loop-next
decreases-loop-next l = list.length l.s - l.next
