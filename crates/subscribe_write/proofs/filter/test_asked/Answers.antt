-- `subscribe_write::filter::test_asked` is right since a filter has a length and an options byte. Assumes nothing.
use mathlib.Core.Path.{sym, ◌∙◌}
use Rattle.subscribe_write.proofs.Filters.{none_asked, some_asked}
use Rattle.subscribe_write.proofs.filter.test_asked.Goals as goal

pub returns-then-how_many-eq0 : goal.returns-then-how_many-eq0
returns-then-how_many-eq0 c =
    let a = c.args in
    λ run. none_asked run a.lengths.now a.options.now (sym c.how_many.ensures ∙ c.if-how_many-eq0.true)

pub returns : goal.returns
returns c =
    let a = c.args in
    λ run. some_asked run a.lengths.now a.options.now (λ e. c.if-how_many-eq0.false (c.how_many.ensures ∙ e))
