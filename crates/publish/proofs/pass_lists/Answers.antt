-- `publish::pass_lists` meets its contract. The loop's invariant: properties of lists stand from `from` to `at`. Assumes nothing.
use Prim.Native.Nat.{◌-◌}
use native.Mathlib.Omega.{arith}
use Rattle.properties.proofs.Laws.Fold.{over_ahead}
use Rattle.publish.proofs.BlockLaws.{lists_next}
use Rattle.publish.proofs.pass_lists.Goals as goal

pub loop-at-smaller : goal.loop-at-smaller
loop-at-smaller c = omega (arith, c.loop-at-test.true, over_ahead c.pass_listed-past.ensures c.if-past-at.false)

pub loop-at-preserved : goal.loop-at-preserved
loop-at-preserved c = lists_next c.loop-at.invariant c.loop-at-test.true c.pass_listed-past.ensures c.if-past-at.false
