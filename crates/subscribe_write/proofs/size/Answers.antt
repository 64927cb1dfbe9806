-- `subscribe_write::size` is right since what it hands on is whether all belongs together, and R. Assumes nothing.
use mathlib.Core.Path.{◌∙◌}
use Rattle.writing.specs.Handed.{subscribe}
use Rattle.write_order.proofs.Laws.{sized_found}
use Rattle.subscribe_write.specs.Handed.{handed}
use Rattle.subscribe_write.proofs.size.Goals as goal

pub returns : goal.returns
returns c = let a = c.args in c.size.ensures ∙ sized_found (subscribe (handed a.m a.user.now a.user_lengths.now a.filters.now a.filter_lengths.now a.options.now)) _ _ c.belongs.ensures (c.rest.ensures a.filter_lengths.now)
