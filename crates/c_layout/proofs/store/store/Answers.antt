-- `c_layout::store::store` is right since as many numbers are stored as there are, or as there is room for. Assumes nothing.
use Rattle.c_layout.proofs.Laws.{stored_all}
use Rattle.c_layout.proofs.store.store.Goals as goal

pub returns : goal.returns
returns c = rw c.copy_from_slice.ensures.after (stored_all c.args.out.now c.args.xs.now _ c.min-n.ensures)
