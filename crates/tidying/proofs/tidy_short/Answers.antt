-- `tidying::tidy_short` is right since success is four bytes, and any other reason is followed by L = 0. Assumes nothing.
use mathlib.Core.Path.{sym, ◌∙◌}
use Rattle.tidying.proofs.Laws.Put.{short_success, short_reason}
use Rattle.tidying.proofs.tidy_short.Goals as goal

pub returns-then-success_in : goal.returns-then-success_in
returns-then-success_in c = short_success c.args.first c.args.s.now _ _ _ _ (sym c.if-success_in.true ∙ c.success_in.ensures) c.give.ensures

pub returns : goal.returns
returns c = short_reason c.args.first c.args.s.now _ _ _ _ (sym c.if-success_in.false ∙ c.success_in.ensures) c.give-2.ensures
