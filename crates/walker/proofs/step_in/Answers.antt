-- `walker::step_in` is right since each turn passes one property that is no user property, and what is left decides. Assumes nothing.
use native.Mathlib.Omega.{arith}
use Rattle.items.proofs.Laws.{user_form}
use Rattle.walker.proofs.Laws.{behind_ahead, behind_room, behind_other, next_here, next_bad}
use Rattle.walker.proofs.step_in.Goals as goal

pub returns-then-k-eq38 : goal.returns-then-k-eq38
returns-then-k-eq38 c =
    next_here c.loop-k.invariant c.in-Ok.ensures c.if-k-eq38.true (user_form c.args.which) c.user_item-item.ensures

pub loop-k-smaller : goal.loop-k-smaller
loop-k-smaller c = let e = c.in-Ok.ensures in omega (arith, behind_room e, behind_ahead e)

pub loop-k-preserved : goal.loop-k-preserved
loop-k-preserved c = behind_other c.loop-k.invariant c.in-Ok.ensures c.if-k-eq38.false

pub returns : goal.returns
returns c = next_bad c.loop-k.invariant c.in_default.ensures
