-- `ping::ping_size` is right since a ping has no bytes behind R. Assumes nothing.
use mathlib.Core.Path.{◌∙◌}
use Rattle.writing.specs.Handed.{ping}
use Rattle.write_order.proofs.Laws.{sized_found}
use Rattle.ping.proofs.Laws.{ping_belongs, ping_rest}
use Rattle.ping.proofs.ping_size.Goals as goal

pub returns : goal.returns
returns c = λ k. c.size.ensures ∙ sized_found (ping k) _ _ (ping_belongs k) (ping_rest k)
