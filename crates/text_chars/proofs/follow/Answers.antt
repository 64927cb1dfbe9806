-- `text_chars::follow` is right since all bytes that are due are tested. Assumes nothing.
use Rattle.std.proofs.Common.{sym, ◌∙◌, arith}
use Rattle.text_chars.proofs.Laws.{follow_short, follow_low, follow_high, follow_first, follow_in, follow_out, follow_end}
use Rattle.text_chars.proofs.follow.Goals as goal

pub returns-then-s-at : goal.returns-then-s-at
returns-then-s-at g c = follow_short _ _ g.row.N _ _ (omega arith) (omega arith)

pub returns-then-b-low : goal.returns-then-b-low
returns-then-b-low g c = follow_low _ _ g.row.N _ _ (omega arith) (omega arith) (omega arith) c.if-b-low.true

pub returns-then-high-b : goal.returns-then-high-b
returns-then-high-b g c = follow_high _ _ g.row.N _ _ (omega arith) (omega arith) (omega arith) c.if-high-b.true

pub loop-i-init : goal.loop-i-init
loop-i-init g c = follow_first _ _ g.row.N _ _ (omega arith) (omega arith) (omega arith) c.if-b-low.false c.if-high-b.false

pub returns-then-not-goes_on : goal.returns-then-not-goes_on
returns-then-not-goes_on g c = follow_out c.loop-i.invariant (omega arith) (sym c.goes_on.ensures ∙ c.if-not-goes_on.true)

pub loop-i-preserved : goal.loop-i-preserved
loop-i-preserved g c = follow_in c.loop-i.invariant (omega arith) (sym c.goes_on.ensures ∙ c.if-not-goes_on.false)

pub returns : goal.returns
returns g c = follow_end c.loop-i.invariant (omega arith)
