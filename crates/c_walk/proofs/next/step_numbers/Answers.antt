-- `c_walk::next::step_numbers` is right since a pair is told as its two places. Assumes nothing.
use Rattle.c_walk.proofs.next.step_numbers.Goals as goal

pub returns-in-Some : goal.returns-in-Some
returns-in-Some c = rw c.in-Some.is

pub returns-in-None : goal.returns-in-None
returns-in-None c = rw c.in-None.is
