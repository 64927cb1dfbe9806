-- `items::seek_on` is right since a value of the property takes one off the count, and any other property leaves it. Assumes nothing.
use Rattle.items.proofs.Laws.{seek_other, seek_here, seek_past}
use Rattle.items.proofs.seek_on.Goals as goal

pub returns-then-k-id : goal.returns-then-k-id
returns-then-k-id c = seek_other _ _ _ _ c.if-k-id.true

pub returns-then-n-eq0 : goal.returns-then-n-eq0
returns-then-n-eq0 c = rw (c.in-Left.is, c.if-n-eq0.true) (seek_here _ _ _ c.if-k-id.false)

pub returns-else-n-eq0 : goal.returns-else-n-eq0
returns-else-n-eq0 c = rw c.in-Left.is (seek_past _ _ _ c.if-k-id.false _ c.if-n-eq0.false)
