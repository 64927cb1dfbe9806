-- `c_layout_read::store_read` is right since it returns and stores what the answer tells. Assumes nothing.
use mathlib.Core.Path.{◌∙◌}
use Rattle.c_layout_read.proofs.store_read.Goals as goal

pub returns : goal.returns
returns c = record { number = c.read_number.ensures; stored = c.store.ensures ∙ rw c.read_numbers-numbers.ensures }
