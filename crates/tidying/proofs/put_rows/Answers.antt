-- `tidying::put_rows` is right since the properties of one identifier are put behind those of the ones before it. Assumes nothing.
use native.Mathlib.Omega.{arith}
use Rattle.tables.specs.Property.{table_row}
use Rattle.tidying.proofs.Laws.Order.{rows_next}
use Rattle.tidying.proofs.put_rows.Goals as goal

pub loop-id-preserved : goal.loop-id-preserved
loop-id-preserved c = (omega (arith, c.put_each-to.auto.out, c.loop-id.invariant.0), rows_next (table_row c.args.row) c.args.s.now c.args.ids.now c.args.start c.args.out.now c.loop-id.invariant.1 c.loop-id-test.true c.put_each-to.ensures)
