-- `c_pieces::store_frame` is right since it returns and stores what the answer tells. Assumes nothing.
use mathlib.Core.Path.{◌∙◌}
use Rattle.c_pieces.proofs.store_frame.Goals as goal

pub returns : goal.returns
returns c = record { number = c.frame_number.ensures; stored = c.store.ensures ∙ rw c.frame_numbers-numbers.ensures }
