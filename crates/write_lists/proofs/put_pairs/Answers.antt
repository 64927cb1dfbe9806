-- `write_lists::put_pairs` is right since `lay_pairs` puts all pairs, and behind the end `cut_pairs` does from the first on. Assumes nothing.
use Rattle.write_lists.proofs.put_pairs.Goals as goal

pub returns-then-out-at : goal.returns-then-out-at
returns-then-out-at c = c.cut_pairs.ensures.0

pub returns : goal.returns
returns c = c.lay_pairs.ensures
