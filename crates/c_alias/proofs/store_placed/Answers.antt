-- `c_alias::store_placed` is right since it returns and stores what the answer tells. Assumes nothing.
use mathlib.Core.Path.{◌∙◌}
use Rattle.alias.specs.AliasAnswer.{told_lies}
use Rattle.c_alias.proofs.Laws.{number_told}
use Rattle.c_alias.proofs.store_placed.Goals as goal

pub returns : goal.returns
returns c = record { number = c.answered_number.ensures ∙ number_told told_lies c.args.placed; stored = c.store.ensures ∙ rw c.force_numbers-numbers.ensures }
