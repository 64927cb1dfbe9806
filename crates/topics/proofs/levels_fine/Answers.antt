-- `topics::levels_fine` is right since each level passed is fine, so what is left decides. Assumes nothing.
use mathlib.Core.Path.{sym, ◌∙◌}
use Rattle.topics.proofs.Laws.{fine_broken, fine_on, fine_done}
use Rattle.topics.proofs.levels_fine.Goals as goal

pub returns-then-not-level_fine : goal.returns-then-not-level_fine
returns-then-not-level_fine c = fine_broken c.loop-end.invariant c.loop-end-test.true (sym c.level_fine.ensures ∙ c.if-not-level_fine.true)

pub loop-end-preserved : goal.loop-end-preserved
loop-end-preserved c = fine_on c.loop-end.invariant c.loop-end-test.true (sym c.level_fine.ensures ∙ c.if-not-level_fine.false) _ c.level_len-end-in-loop-end.ensures

pub returns : goal.returns
returns c = c.level_fine-2.ensures ∙ fine_done c.loop-end.invariant c.loop-end-test.false
