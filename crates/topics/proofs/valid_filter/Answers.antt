-- `topics::valid_filter` is right since a filter with no wildcards has none in a level, and any other goes level by level. Assumes nothing.
use mathlib.Core.Path.{sym, ◌∙◌}
use Rattle.std.proofs.lemmas.Bool.{eqb-true, eqb-false}
use Rattle.topics.proofs.Laws.{filter_none, filter_some, filter_plain}
use Rattle.topics.proofs.valid_filter.Goals as goal

pub returns-then-is_empty : goal.returns-then-is_empty
returns-then-is_empty c = filter_none _ (eqb-true _ 0 (sym c.if-is_empty.ensures))

pub returns-then-not-wild_long : goal.returns-then-not-wild_long
returns-then-not-wild_long c = filter_plain _ (eqb-false _ 0 (sym c.if-is_empty.ensures)) (sym c.if-not-wild_long.ensures)

pub returns : goal.returns
returns c = c.levels_fine.ensures ∙ filter_some _ (eqb-false _ 0 (sym c.if-is_empty.ensures))
