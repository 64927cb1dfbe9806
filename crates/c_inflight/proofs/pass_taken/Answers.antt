-- `c_inflight::pass_taken` is right since none of the bytes passed is free. Assumes nothing.
use mathlib.Core.Path.{◌≡◌, ap}
use Prim.Native.Nat.{ℕ, ◌+◌, ◌-◌}
use lib.ListN.{take, drop}
use native.Mathlib.Omega.{arith}
use Rattle.inflight.proofs.Laws.{at_start}
use Rattle.c_inflight.proofs.Laws.{sixteen_on}
use Rattle.c_inflight.proofs.pass_taken.Goals as goal

pub loop-i-init : goal.loop-i-init
loop-i-init c = at_start _

pub loop-i-preserved : goal.loop-i-preserved
loop-i-preserved c =
    let e : c.loop-i.i + 16 - c.loop-i.i ≡ 16 = omega arith in
    sixteen_on c.loop-i.invariant (omega (arith, c.loop-i.invariant.within)) (ap (λ (n : ℕ). take n (drop c.loop-i.i c.args.codes.now)) e) (c.all_taken.ensures c.if-not-all_taken.false)
