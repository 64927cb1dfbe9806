-- `c_filters::store_answer` is right since it returns and stores what the answer tells. Assumes nothing.
use mathlib.Core.Path.{◌∙◌}
use Rattle.c_filters.proofs.store_answer.Goals as goal

pub returns : goal.returns
returns c = record { number = c.table_number.ensures; stored = c.store.ensures ∙ rw c.table_numbers-numbers.ensures }
