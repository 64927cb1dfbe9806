-- `properties::row_block::fill` meets its contract. The loop's invariant: the rest of the loop decides the whole. Each property takes a byte at
-- least, and what is left of the slice is the measure. Assumes nothing.
use mathlib.Core.Path.{refl, sym, ap, ◌∙◌}
use native.Mathlib.Omega.{arith}
use Rattle.grammar.specs.Record.{last_of, props_of}
use Rattle.property_value.specs.OneProperty.{property_got}
use Rattle.properties.proofs.Laws.Fold.{props_lawful, filling_next, read_ahead, filled_twice, filled_bad, filled_end}
use Rattle.properties.proofs.row_block.fill.Goals as goal

pub returns-then-has : goal.returns-then-has
unfolding props_of last_of
returns-then-has c = filled_twice _ refl c.loop-at.invariant c.loop-at-test.true (sym c.has.ensures ∙ c.if-has.true)

pub returns-in-Refused : goal.returns-in-Refused
unfolding props_of last_of
returns-in-Refused c =
    filled_bad _ refl c.loop-at.invariant c.loop-at-test.true (sym c.has.ensures ∙ c.if-has.false) (rw c.as_row.ensures at c.find_property.ensures)
    (ap property_got c.in-Refused.is)

pub loop-at-smaller : goal.loop-at-smaller
loop-at-smaller c = omega (arith, c.loop-at-test.true, read_ahead c.find_property.ensures (ap property_got c.in-Found.is))

pub loop-at-preserved : goal.loop-at-preserved
loop-at-preserved c =
    filling_next c.loop-at.invariant c.loop-at-test.true (sym c.has.ensures ∙ c.if-has.false)
    (props_lawful c.args.row) (rw c.as_row.ensures at c.find_property.ensures) (ap property_got c.in-Found.is) c.apply-p.ensures

pub returns : goal.returns
unfolding props_of last_of
returns c = filled_end _ refl c.loop-at.invariant c.loop-at-test.false
