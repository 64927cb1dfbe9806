-- `tidying::in_order` is right since the runs of all identifiers, one behind the other, are all properties just where nothing is left. Assumes nothing.
use native.Mathlib.Omega.{arith}
use borrow.Author.Tests.{leb-true}
use Rattle.tables.specs.Property.{table_row}
use Rattle.tidying.proofs.Laws.Order.{order_next, order_end}
use Rattle.tidying.proofs.in_order.Goals as goal

pub loop-id-preserved : goal.loop-id-preserved
loop-id-preserved c = order_next (table_row c.args.row) c.args.s.now c.args.ids.now c.args.start c.loop-id.invariant c.loop-id-test.true c.pass_run-i.ensures

pub returns : goal.returns
returns c = λ ps v e. order_end (table_row c.args.row) c.args.s.now c.args.ids.now c.args.start c.loop-id.invariant (omega arith) (leb-true _ _ e) ps v
