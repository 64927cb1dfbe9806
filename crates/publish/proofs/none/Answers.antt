-- `publish::none` meets its contract: of no properties each single value is absent. Assumes nothing.
use mathlib.Core.Path.{refl}
use Rattle.grammar.specs.Record.{last_of, publish_props}
use Rattle.publish.proofs.none.Goals as goal

pub returns : goal.returns
unfolding publish_props last_of
returns c = refl
