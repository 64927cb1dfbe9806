-- `alias::learn` is right since it hands on the topic and the alias of the message. Assumes nothing.
use mathlib.Core.Path.{ap, ◌∙◌}
use Rattle.alias.specs.AliasAnswer.{number_if}
use Rattle.alias.proofs.Laws.{number_told, learnt_as}
use Rattle.alias.proofs.learn.Goals as goal

pub returns : goal.returns
returns c =
    let a = c.alias_of in
    learnt_as _ _ c.topic.ensures.bytes (number_told a.result ∙ ap number_if a.ensures) c.learn_topic.ensures
