-- `speed_leaves::speed_leaves_sum` is right since the numbers before `at` are summed up, and what stands from there on decides. Assumes nothing.
use Rattle.std.proofs.Common.{◌-◌, sym, arith}
use Rattle.speed_leaves.proofs.Laws.{none_summed, all_summed, not_summed, ahead, one_summed}
use Rattle.speed_leaves.proofs.speed_leaves_sum.Goals as goal

pub loop-at-init : goal.loop-at-init
loop-at-init c = none_summed _

pub loop-at-smaller : goal.loop-at-smaller
loop-at-smaller c =
    omega (
      arith,
      ahead c.loop-at.invariant c.loop-at-test.true _ _
          (sym (rw c.in-Ok.is at c.read_length.ensures)),
    )

pub loop-at-preserved : goal.loop-at-preserved
loop-at-preserved c =
    rw c.wrapping_add_u64-sum.ensures.value
    (one_summed c.loop-at.invariant c.loop-at-test.true _ _
    (sym (rw c.in-Ok.is at c.read_length.ensures)))

pub returns-in-Err : goal.returns-in-Err
returns-in-Err c =
    not_summed c.loop-at.invariant c.loop-at-test.true _
    (sym (rw c.in-Err.is at c.read_length.ensures))

pub returns : goal.returns
returns c = all_summed c.loop-at.invariant c.loop-at-test.false
