-- `c_pieces::store_state` is right since it stores what the state tells. Assumes nothing.
use mathlib.Core.Path.{◌∙◌}
use Rattle.c_pieces.proofs.store_state.Goals as goal

pub returns : goal.returns
returns c = c.store.ensures ∙ rw c.state_numbers-numbers.ensures
