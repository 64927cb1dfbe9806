-- `alias::lengths_good` is right since the lengths passed are good, and one above 128 spoils the table. Assumes nothing.
use mathlib.Core.Path.{refl}
use Rattle.alias.specs.Table.{lengths_good}
use Rattle.alias.proofs.Laws.{lengths_next, lengths_bad}
use Rattle.alias.proofs.lengths_good.Goals as goal

pub returns-then-table-n-gt128 : goal.returns-then-table-n-gt128
returns-then-table-n-gt128 c = lengths_bad c.args.table.now c.loop-n.n 16 c.loop-n-test.true c.if-table-n-gt128.true

pub loop-n-preserved : goal.loop-n-preserved
loop-n-preserved c = lengths_next c.args.table.now c.loop-n.n c.loop-n.invariant c.if-table-n-gt128.false

pub loop-n-init : goal.loop-n-init
unfolding lengths_good
loop-n-init c = refl
