use lib.ListN.{length}
use Prim.Native.Nat.{◌-◌}
use Rattle.tables.specs.Property.{table_row}
use Rattle.walker.proofs.Laws.{Behind}
use Rattle.walker.proofs.step_in.Given as goal

abbrev pub invariant-loop-k : goal.invariant-loop-k
invariant-loop-k l = Behind (table_row l.which) l.s l.at l.i

abbrev pub decreases-loop-k : goal.decreases-loop-k
decreases-loop-k l = length l.s - l.i
