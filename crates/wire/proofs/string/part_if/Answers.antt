-- `wire::string::part_if` meets its contract: the place is left to `part`, the empty one if it is absent. Assumes nothing.
use Rattle.wire.proofs.string.part_if.Goals as goal

pub returns-in-None : goal.returns-in-None
returns-in-None c = rw c.in-None.is c.part.ensures

pub returns-in-Some : goal.returns-in-Some
returns-in-Some c = rw c.in-Some.is c.part-in-Some.ensures
