-- `journal::highest` is right since it is the definition, read by cases. Assumes nothing.
use Rattle.journal.specs.Area.{highest}
use Rattle.journal.proofs.highest.Goals as goal

pub returns-in-Some : goal.returns-in-Some
unfolding highest
returns-in-Some c = rw c.in-Some.is c.number_of.ensures

pub returns-in-None : goal.returns-in-None
unfolding highest
returns-in-None c = rw c.in-None.is
