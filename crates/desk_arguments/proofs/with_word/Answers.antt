-- `desk_arguments::with_word` is right since what is awaited decides. Assumes nothing.
use mathlib.Core.Path.{◌∙◌}
use Rattle.desk_arguments.proofs.with_word.Goals as goal

pub returns-in-Limit : goal.returns-in-Limit
returns-in-Limit c = c.with_limit.ensures ∙ rw c.in-Limit.is

pub returns-in-Topic : goal.returns-in-Topic
returns-in-Topic c = rw c.in-Topic.is

pub returns-in-Payload : goal.returns-in-Payload
returns-in-Payload c = c.with_most.ensures ∙ rw c.in-Payload.is

pub returns-in-Nothing : goal.returns-in-Nothing
returns-in-Nothing c = c.with_said.ensures ∙ rw (c.in-Nothing.is, c.said_by.ensures)
