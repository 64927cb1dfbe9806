-- `trial_frames::frames` ends since each turn takes a byte at least. Assumes nothing.
use Rattle.std.proofs.Common.{length}
use Rattle.trial_frames.proofs.frames.Given as goal

abbrev pub decreases-loop-len : goal.decreases-loop-len
decreases-loop-len l = length l.rest
