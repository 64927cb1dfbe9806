-- `c_layout::answer::store_written` is right since it returns and stores what the answer tells. Assumes nothing.
use mathlib.Core.Path.{◌∙◌}
use Rattle.c_layout.proofs.Laws.{number_told}
use Rattle.c_layout.proofs.answer.store_written.Goals as goal

pub returns : goal.returns
returns c = record { number = c.answered_number.ensures ∙ number_told (λ n. n) c.args.written; stored = c.store.ensures ∙ rw c.written_numbers-numbers.ensures }
