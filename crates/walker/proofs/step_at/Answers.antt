-- `walker::step_at` is right since the part is the bytes before `end`. Assumes nothing.
use Rattle.walker.proofs.step_at.Goals as goal

pub returns : goal.returns
returns c = rw c.part.ensures.bytes at c.step_in.ensures
