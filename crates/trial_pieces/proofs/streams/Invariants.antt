-- `trial_pieces::streams` ends since each turn takes a byte at least. Assumes nothing.
use Rattle.std.proofs.Common.{length}
use Rattle.trial_pieces.proofs.streams.Given as goal

abbrev pub decreases-loop-len : goal.decreases-loop-len
decreases-loop-len l = length l.rest
