-- `c_alias::ecch_topic_in_force` is right since what is returned and stored is of the answer that `find_topic` gives. Assumes nothing.
use mathlib.Core.Path.{ap, ◌∙◌}
use Rattle.alias.specs.Alias.{in_force}
use Rattle.c_alias.proofs.Laws.{given_told}
use Rattle.c_alias.proofs.ecch_topic_in_force.Goals as goal

pub returns : goal.returns
returns c =
    let e = c.find_topic-placed.ensures ∙ ap (in_force _ _ _) (given_told c.args.alias_on c.args.alias c.given-alias.ensures) in
    record { number = c.store_placed.ensures.number ∙ rw e; stored = c.store_placed.ensures.stored ∙ rw e }
