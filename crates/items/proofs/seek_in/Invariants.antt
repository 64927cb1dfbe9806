use lib.ListN.{length}
use Prim.Native.Nat.{◌-◌}
use Rattle.tables.specs.Property.{table_row}
use Rattle.items.proofs.Laws.{Seeking}
use Rattle.items.proofs.seek_in.Given as goal

abbrev pub invariant-loop-at : goal.invariant-loop-at
invariant-loop-at l = Seeking (table_row l.row) l.id l.s l.start l.n l.seek l.met l.at

abbrev pub decreases-loop-at : goal.decreases-loop-at
decreases-loop-at l = length l.s - l.at
