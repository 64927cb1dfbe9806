use mathlib.Core.Path.{sym, ◌∙◌}
use Rattle.journal.proofs.Finding.{start_bad, start_done}
use Rattle.journal.proofs.start.Goals as goal

pub returns-then-not-is_whole : goal.returns-then-not-is_whole
returns-then-not-is_whole c = start_bad _ (sym c.is_whole.ensures ∙ c.if-not-is_whole.true)

pub returns : goal.returns
returns c = start_done _ (sym c.is_whole.ensures ∙ c.if-not-is_whole.false) c.zero.ensures
