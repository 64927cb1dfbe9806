-- `c_read::read::ecch_part` is right since it asks whether the place lies within. Assumes nothing.
use mathlib.Core.Path.{sym}
use Rattle.c_read.proofs.read.ecch_part.Goals as goal

pub returns-then-within : goal.returns-then-within
returns-then-within c = rw (sym c.within.ensures, c.if-within.true)

pub returns : goal.returns
returns c = rw (sym c.within.ensures, c.if-within.false)
