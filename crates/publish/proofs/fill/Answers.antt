-- `publish::fill` meets its contract. The loop's invariant: the rest of the loop decides the whole. Each property takes a byte at
-- least, and what is left of the slice is the measure. Assumes nothing.
use mathlib.Core.Path.{sym, ap, ◌∙◌}
use mathlib.Core.Option.{some}
use native.Mathlib.Omega.{arith}
use lib.ListN.{length}
use Rattle.reading.specs.Reader.{got}
use Rattle.records.specs.AsNumbers.{told_span}
use Rattle.property_value.specs.OneProperty.{property_got}
use Rattle.properties.specs.Block.{publish_record}
use Rattle.properties.proofs.Laws.Fold.{filling_start, filling_next, read_ahead, publish_lawful, filled_twice, filled_bad, filled_end}
use Rattle.publish.proofs.BlockLaws.{filling_lists}
use Rattle.publish.proofs.fill.Goals as goal

pub loop-at-init : goal.loop-at-init
loop-at-init c = filling_start publish_lawful _ _ _ _ c.none-p.ensures

pub returns-then-has : goal.returns-then-has
returns-then-has c = filled_twice _ c.none-p.ensures (filling_lists c.loop-at.invariant c.pass_lists-at.ensures) c.if-s-at.false (sym c.has.ensures ∙ c.if-has.true)

pub returns-in-Refused : goal.returns-in-Refused
returns-in-Refused c =
    filled_bad _ c.none-p.ensures (filling_lists c.loop-at.invariant c.pass_lists-at.ensures) c.if-s-at.false (sym c.has.ensures ∙ c.if-has.false)
    c.find_property.ensures (ap property_got c.in-Refused.is)

pub loop-at-smaller : goal.loop-at-smaller
loop-at-smaller c = omega (arith, c.pass_lists-at.ensures.ahead, c.if-s-at.false, read_ahead c.find_property.ensures (ap property_got c.in-Found.is))

pub loop-at-preserved : goal.loop-at-preserved
loop-at-preserved c =
    filling_next (filling_lists c.loop-at.invariant c.pass_lists-at.ensures) c.if-s-at.false (sym c.has.ensures ∙ c.if-has.false)
    publish_lawful c.find_property.ensures (ap property_got c.in-Found.is) c.apply-p.ensures

pub returns : goal.returns
returns c =
    let a = c.args in
    ap (λ (o : publish_record.Props). got (some o, length a.s.now)) c.made-q.ensures
    ∙ filled_end (told_span a.block) c.none-p.ensures (filling_lists c.loop-at.invariant c.pass_lists-at.ensures) c.if-s-at.true
