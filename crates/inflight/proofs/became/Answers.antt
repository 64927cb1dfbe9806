-- `inflight::became` is right since the one state that is free has the number 0. Assumes nothing.
use mathlib.Core.Path.{sym, ◌∙◌}
use Rattle.inflight.proofs.Laws.{became_free, became_on}
use Rattle.inflight.proofs.became.Goals as goal

pub returns-then-code-eq0 : goal.returns-then-code-eq0
returns-then-code-eq0 c = became_free _ (sym c.code.ensures ∙ c.if-code-eq0.true)

pub returns : goal.returns
returns c = became_on _ (λ e. c.if-code-eq0.false (c.code.ensures ∙ e))
