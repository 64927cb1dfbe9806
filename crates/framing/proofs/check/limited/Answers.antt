-- `framing::check::limited` is right since F is refused above the limit alone. Assumes nothing.
use borrow.Author.Tests.{le-leb, lt-leb}
use Rattle.reading.specs.Refusal.{within, over}
use Rattle.framing.proofs.check.limited.Goals as goal

pub returns-then-most-size : goal.returns-then-most-size
unfolding within over
returns-then-most-size c = rw (c.in-Some.is, lt-leb _ _ c.if-most-size.true)

pub returns-else-most-size : goal.returns-else-most-size
unfolding within over
returns-else-most-size c = rw (c.in-Some.is, le-leb _ _ c.if-most-size.false)

pub returns-in_default : goal.returns-in_default
unfolding within
returns-in_default c = rw c.in_default.is
