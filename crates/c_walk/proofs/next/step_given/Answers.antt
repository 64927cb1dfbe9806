-- `c_walk::next::step_given` is right since the kind's row is asked for first. Assumes nothing.
use mathlib.Core.Path.{refl, sym}
use Rattle.c_walk.proofs.next.step_given.Goals as goal

pub returns-in-Some : goal.returns-in-Some
returns-in-Some c = rw (sym (rw c.in-Some.is at c.row_of.ensures)) c.step_at.ensures

pub returns-in-None : goal.returns-in-None
returns-in-None c = rw (sym (rw c.in-None.is at c.row_of.ensures)) (refl, refl)
