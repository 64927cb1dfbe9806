-- `items::seek_in` is right since each turn passes one property, which was not met before, and what is left decides. Assumes nothing.
use native.Mathlib.Omega.{arith}
use Prim.Native.Nat.{◌-◌}
use Rattle.items.proofs.Laws.{seeking_start, seeking_end, seeking_twice, seeking_bad, seeking_ahead, seeking_next}
use Rattle.items.proofs.seek_in.Goals as goal

pub loop-at-init : goal.loop-at-init
loop-at-init c = seeking_start _ _ _ _ _

pub returns-then-met-first : goal.returns-then-met-first
returns-then-met-first c = seeking_twice _ _ _ _ _ c.loop-at.invariant c.loop-at-test.true c.if-met-first.true

pub returns-in-Err : goal.returns-in-Err
returns-in-Err c = seeking_bad _ _ _ _ _ c.loop-at.invariant c.loop-at-test.true c.if-met-first.false (rw c.in-Err.is at c.read_property.ensures)

pub loop-at-smaller : goal.loop-at-smaller
loop-at-smaller c =
    let r = rw c.in-Ok.is at c.read_property.ensures in
    omega (arith, c.loop-at-test.true, seeking_ahead _ _ _ _ _ c.loop-at.invariant c.loop-at-test.true c.if-met-first.false r)

pub loop-at-preserved : goal.loop-at-preserved
loop-at-preserved c =
    let r = rw c.in-Ok.is at c.read_property.ensures in
    seeking_next _ _ _ _ _ c.loop-at.invariant c.loop-at-test.true c.if-met-first.false r (omega (arith, c.type_inv.s c.loop-at.at)) c.is_single.ensures c.seek_on-seek.ensures

pub returns : goal.returns
returns c = seeking_end _ _ _ _ _ c.loop-at.invariant c.loop-at-test.false
