-- `desk_arguments::with_name` is right since its tests are those of the definition. Assumes nothing.
use mathlib.Core.Path.{sym, ◌∙◌}
use Rattle.desk_arguments.proofs.with_name.Goals as goal

pub returns-then-a : goal.returns-then-a
returns-then-a c = c.as_bad.ensures ∙ rw c.if-a.true

pub returns-then-is_same : goal.returns-then-is_same
returns-then-is_same c = rw (c.if-a.false, sym c.is_same.ensures ∙ c.if-is_same.true)

pub returns : goal.returns
returns c = rw (c.if-a.false, sym c.is_same.ensures ∙ c.if-is_same.false)
