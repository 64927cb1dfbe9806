-- `subscribe_write::filter::filters_belong` is right since both tests are made. Assumes nothing.
use mathlib.Core.Path.{◌∙◌}
use Rattle.writing.specs.Handed.{filters_belong}
use Rattle.subscribe_write.proofs.filter.filters_belong.Goals as goal

pub returns : goal.returns
unfolding filters_belong
returns c = c.both.ensures ∙ rw c.adds_up.ensures
