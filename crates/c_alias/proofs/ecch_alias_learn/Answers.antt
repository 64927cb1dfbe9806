-- `c_alias::ecch_alias_learn` is right since the topic is the part at the place, and the alias what the two numbers stand for. Assumes nothing.
use mathlib.Core.Path.{ap, ◌∙◌}
use Rattle.c_layout.specs.Value.{fit_number}
use Rattle.alias.proofs.Laws.{learnt_as}
use Rattle.c_alias.proofs.Laws.{given_told, number_told}
use Rattle.c_alias.proofs.ecch_alias_learn.Goals as goal

pub returns : goal.returns
returns c =
    let l = learnt_as _ _ c.part-topic.ensures.bytes (given_told c.args.alias_on c.args.alias c.given-alias.ensures) c.learn_topic-judged.ensures in
    record { number = c.answered_number.ensures ∙ number_told (λ u. u) c.learn_topic-judged.result ∙ ap fit_number l.told; after = l.after }
