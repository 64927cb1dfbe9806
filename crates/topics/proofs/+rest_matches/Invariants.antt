-- `rest_matches` is right since the first levels decide, or what is left behind them, which is shorter: the measure. Assumes nothing.
use Rattle.std.proofs.Common.{length}
use Rattle.topics.proofs.+rest_matches.Given as goal

abbrev pub decreases-rest_matches : goal.decreases-rest_matches
decreases-rest_matches l = length l.filter.now
