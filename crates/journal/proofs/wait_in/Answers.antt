use Rattle.journal.specs.Block.{wait_in}
use Rattle.journal.proofs.wait_in.Goals as goal

pub returns : goal.returns
unfolding wait_in
returns c = c.pair.ensures
