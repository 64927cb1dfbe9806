use Prim.Native.Nat.{◌%◌}
use borrow.Author.Tests.{eq-eqb, ne_eqb}
use lib.ListN.{length}
use Rattle.journal.specs.Area.{whole}
use Rattle.journal.proofs.is_whole.Goals as goal

pub returns-then-area-eq0 : goal.returns-then-area-eq0
unfolding whole
returns-then-area-eq0 c = rw (eq-eqb (length c.args.area.now % 512) 0 c.if-area-eq0.true)

pub returns-else-area-eq0 : goal.returns-else-area-eq0
unfolding whole
returns-else-area-eq0 c = rw (ne_eqb (length c.args.area.now % 512) 0 c.if-area-eq0.false)
