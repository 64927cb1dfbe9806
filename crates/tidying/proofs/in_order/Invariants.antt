use Rattle.tables.specs.Property.{table_row}
use Rattle.tidying.proofs.Laws.Order.{OrderingAll}
use Rattle.tidying.proofs.in_order.Given as goal

abbrev pub invariant-loop-id : goal.invariant-loop-id
invariant-loop-id l = OrderingAll (table_row l.row) l.s l.ids l.start l.id-index l.i
