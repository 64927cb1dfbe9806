-- `c_calls::first::mismatch_or` is right since it asks whether what is handed over belongs together. Assumes nothing.
use mathlib.Core.Path.{sym}
use Rattle.c_calls.proofs.first.mismatch_or.Goals as goal

pub returns-then-together : goal.returns-then-together
returns-then-together c = λ t p. rw (sym (c.all_belong-together.ensures t p), c.if-together.true)

pub returns : goal.returns
returns c = λ t p. rw (sym (c.all_belong-together.ensures t p), c.if-together.false)
