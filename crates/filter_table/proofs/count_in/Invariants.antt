use Prim.Native.Nat.{◌-◌}
use lib.ListN.{length}
use Rattle.filter_table.proofs.Laws.{Counted}
use Rattle.filter_table.proofs.count_in.Given as goal

abbrev pub invariant-loop-next : goal.invariant-loop-next
invariant-loop-next l = Counted l.s l.at l.n l.i

abbrev pub decreases-loop-next : goal.decreases-loop-next
decreases-loop-next l = length l.s - l.i
