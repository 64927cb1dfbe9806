-- `pieces::if_under` is right since F above the limit gives 0, which nothing is said of. Assumes nothing.
use borrow.Author.Tests.{le-leb}
use Rattle.reading.specs.Refusal.{within}
use Rattle.records.specs.AsNumbers.{limit_of}
use Rattle.pieces.proofs.Laws.{under}
use Rattle.pieces.proofs.if_under.Goals as goal

pub returns-else-most-f : goal.returns-else-most-f
unfolding within
returns-else-most-f c =
    let a = c.args in
    under (limit_of a.limit) a.f (rw (c.in-Some.is, le-leb _ _ c.if-most-f.false))

pub returns-in_default : goal.returns-in_default
unfolding within
returns-in_default c =
    let a = c.args in
    under (limit_of a.limit) a.f (rw c.in_default.is)
