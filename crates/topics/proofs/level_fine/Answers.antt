-- `topics::level_fine` is right since a level of one byte is a wildcard or has none. Assumes nothing.
use mathlib.Core.Path.{ap, ◌∙◌}
use mathlib.Core.Bool.{not}
use Rattle.topics.proofs.Laws.{fine_one, fine_more}
use Rattle.topics.proofs.level_fine.Goals as goal

pub returns-then-last : goal.returns-then-last
returns-then-last c = rw c.if-last.true (rw c.if-last.true at (fine_one c.args.last _ c.if-level-eq1.true))

pub returns-else-last : goal.returns-else-last
returns-else-last c = rw c.if-last.false (rw c.if-last.false at (fine_one c.args.last _ c.if-level-eq1.true))

pub returns : goal.returns
returns c = ap not c.has_wildcards.ensures ∙ fine_more c.args.last _ c.if-level-eq1.false
