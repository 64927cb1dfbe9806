-- `topics::is_first` is right since the first level of the topic ends behind the level if it is the same. Assumes nothing.
use mathlib.Core.Path.{sym, ◌∙◌}
use Rattle.topics.proofs.Laws.{first_longer, first_same}
use Rattle.topics.proofs.is_first.Goals as goal

pub returns-then-ends_at : goal.returns-then-ends_at
returns-then-ends_at c = c.starts_with.ensures.value ∙ first_same _ _ c.requires (sym c.if-ends_at.ensures)

pub returns-else-ends_at : goal.returns-else-ends_at
returns-else-ends_at c = c.if-ends_at.false ∙ first_longer _ _ (sym c.if-ends_at.ensures)
