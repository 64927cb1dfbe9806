-- `c_read::read::ecch_read` is right since what is returned and stored is of the answer that `packet::read` gives. Assumes nothing.
use mathlib.Core.Path.{◌∙◌}
use Rattle.c_read.proofs.read.ecch_read.Goals as goal

pub returns : goal.returns
returns c = record { number = c.store_read.ensures.number ∙ rw (c.read-read.ensures.answer.answer, c.bound.ensures); stored = c.store_read.ensures.stored ∙ rw (c.read-read.ensures.answer.answer, c.read-read.ensures.answer.carries, c.bound.ensures) }
