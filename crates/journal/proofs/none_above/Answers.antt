use mathlib.Core.Path.{sym, ◌∙◌}
use native.Mathlib.Omega.{arith}
use Rattle.journal.proofs.Turns.{above_more, above_not, above_all}
use Rattle.journal.proofs.none_above.Goals as goal

pub returns-then-wait_in-ne0 : goal.returns-then-wait_in-ne0
returns-then-wait_in-ne0 c = above_not c.loop-i.invariant (omega arith) (λ e. c.if-wait_in-ne0.true (c.wait_in.ensures ∙ e))

pub loop-i-preserved : goal.loop-i-preserved
loop-i-preserved c = above_more c.loop-i.invariant (omega arith) (sym c.wait_in.ensures ∙ c.if-wait_in-ne0.false)

pub returns : goal.returns
returns c = above_all c.loop-i.invariant (omega arith)
