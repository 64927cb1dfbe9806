-- `tidying::put_each` is right since each turn puts one property, if it has the identifier, and what is left decides the rest. Assumes nothing.
use mathlib.Core.Path.{◌∙◌}
use Prim.Native.Nat.{◌-◌}
use native.Mathlib.Omega.{arith}
use Rattle.tables.specs.Property.{table_row}
use Rattle.tidying.proofs.Laws.Order.{put_next, put_end}
use Rattle.tidying.proofs.Laws.Put.{behind_same}
use Rattle.tidying.proofs.put_each.Goals as goal

pub loop-i-preserved : goal.loop-i-preserved
loop-i-preserved c = (behind_same c.put_if-to.ensures ∙ c.loop-i.invariant.0, put_next (table_row c.args.row) c.args.s.now c.args.id c.args.start c.args.out.now c.args.at c.loop-i.invariant.1 c.loop-i-test.true c.pass_property-next.ensures c.put_if-to.ensures)

pub returns : goal.returns
returns c = put_end (table_row c.args.row) c.args.s.now c.args.id c.args.start c.args.out.now c.args.at c.loop-i.invariant.1 (omega arith)
