-- `items::nth_value` is right since a place within the slice is the end of the slice that ends where the place does. Assumes nothing.
use mathlib.Core.Path.{sym, ◌∙◌}
use borrow.Author.Tests.{leb-true, leb-false}
use Rattle.items.proofs.Laws.{nth_outside, nth_within}
use Rattle.items.proofs.nth_value.Goals as goal

pub returns-then-within : goal.returns-then-within
returns-then-within c = nth_within _ _ _ _ _ (leb-true _ _ (sym c.within.ensures ∙ c.if-within.true)) _ c.seek_in.ensures

pub returns : goal.returns
returns c = nth_outside _ _ _ _ _ (leb-false _ _ (sym c.within.ensures ∙ c.if-within.false))
