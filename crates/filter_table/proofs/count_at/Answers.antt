-- `filter_table::count_at` is right since a place within the slice is the end of the slice that ends where the place does. Assumes nothing.
use mathlib.Core.Path.{sym, ◌∙◌}
use borrow.Author.Tests.{leb-true, leb-false}
use Rattle.filter_table.proofs.Laws.{run_within, run_outside}
use Rattle.filter_table.proofs.count_at.Goals as goal

pub returns-then-within : goal.returns-then-within
returns-then-within c = run_within (leb-true _ _ (sym c.within.ensures ∙ c.if-within.true)) c.count_in.ensures

pub returns : goal.returns
returns c = run_outside (leb-false _ _ (sym c.within.ensures ∙ c.if-within.false))
