-- `tidying::pass_run` is right since each turn passes one property with the identifier. Assumes nothing.
use Prim.Native.Nat.{◌-◌}
use native.Mathlib.Omega.{arith}
use Rattle.tables.specs.Property.{table_row}
use Rattle.tidying.proofs.Laws.Order.{run_start, run_next}
use Rattle.tidying.proofs.pass_run.Goals as goal

pub loop-i-init : goal.loop-i-init
loop-i-init c = run_start _ _ _ _

pub loop-i-preserved : goal.loop-i-preserved
loop-i-preserved c = run_next (table_row c.args.row) c.args.s.now c.args.id c.args.at c.loop-i.invariant c.loop-i-test.true (omega arith) c.pass_property-i.ensures
