-- `speed_reading::speed_reading_sum` is right since the frames before `at` are added up, and what stands from there on decides. Assumes nothing.
use Rattle.std.proofs.Common.{◌-◌, arith}
use Rattle.records.specs.AsNumbers.{told_error}
use Rattle.speed_reading.proofs.Laws.{none_summed, all_summed, last_summed, ahead, one_summed}
use Rattle.speed_reading.proofs.speed_reading_sum.Goals as goal

pub loop-at-init : goal.loop-at-init
loop-at-init c = none_summed _

pub loop-at-smaller : goal.loop-at-smaller
loop-at-smaller c = omega (arith, ahead c.loop-at.invariant c.loop-at-test.true _ _ (rw c.in-Ok.is at c.read.ensures.answer.answer))

pub loop-at-preserved : goal.loop-at-preserved
loop-at-preserved c =
    rw (c.wrapping_add_u64-sum-in-Ok.ensures.value, c.wrapping_add_u64-sum.ensures.value, c.weight.ensures)
    (one_summed c.loop-at.invariant c.loop-at-test.true _ _ (rw c.in-Ok.is at c.read.ensures.answer.answer))

pub returns-in-Err : goal.returns-in-Err
returns-in-Err c = last_summed c.loop-at.invariant (told_error c.in-Err.field-0-0) c.in-Err.field-0-1 (rw c.in-Err.is at c.read.ensures.answer.answer)

pub returns : goal.returns
returns c = all_summed c.loop-at.invariant c.loop-at-test.false
