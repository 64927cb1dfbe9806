-- `desk_arguments::with_limit` is right since the number decides. Assumes nothing.
use mathlib.Core.Path.{ap, ◌∙◌}
use Rattle.desk_arguments.specs.Words.{with_limit}
use Rattle.desk_arguments.proofs.with_limit.Goals as goal

pub returns-in-Some : goal.returns-in-Some
returns-in-Some c = ap (with_limit c.args.a) (rw c.in-Some.is at c.number.ensures)

pub returns-in-None : goal.returns-in-None
returns-in-None c = c.as_bad.ensures ∙ ap (with_limit c.args.a) (rw c.in-None.is at c.number.ensures)
