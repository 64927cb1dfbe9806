-- `alias::place_in_force` is right since it hands on where the topic stands, and the alias of the message. Assumes nothing.
use mathlib.Core.Path.{ap, ◌∙◌}
use Rattle.alias.specs.Alias.{in_force}
use Rattle.alias.specs.AliasAnswer.{number_if}
use Rattle.alias.proofs.Laws.{number_told}
use Rattle.alias.proofs.place_in_force.Goals as goal

pub returns : goal.returns
returns c =
    let a = c.alias_of in
    c.find_topic.ensures ∙ ap (in_force _ _ _) (number_told a.result ∙ ap number_if a.ensures)
