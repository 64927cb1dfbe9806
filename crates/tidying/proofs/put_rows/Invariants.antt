use mathlib.Core.Path.{◌≡◌}
use lib.ListN.{length}
use Rattle.tables.specs.Property.{table_row}
use Rattle.tidying.proofs.Laws.Order.{RowsPut}
use Rattle.tidying.proofs.put_rows.Given as goal

abbrev pub invariant-loop-id : goal.invariant-loop-id
invariant-loop-id l = (length l.out ≡ length l.initial.out) × RowsPut (table_row l.row) l.s l.ids l.start l.initial.out l.out l.to l.id-index
