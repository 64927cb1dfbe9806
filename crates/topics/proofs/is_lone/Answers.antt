-- `topics::is_lone` is right since a level of one byte is that byte. Assumes nothing.
use mathlib.Core.Path.{sym, ◌∙◌}
use Rattle.std.proofs.Common.{ne_eqb}
use Rattle.topics.proofs.Laws.{lone_one, lone_other}
use Rattle.topics.proofs.is_lone.Goals as goal

pub returns-then-level-eq1 : goal.returns-then-level-eq1
returns-then-level-eq1 c = sym (lone_one _ _ c.if-level-eq1.true)

pub returns-else-level-eq1 : goal.returns-else-level-eq1
returns-else-level-eq1 c = ne_eqb _ _ c.if-level-eq1.false ∙ sym (lone_other _ _ c.if-level-eq1.false)
