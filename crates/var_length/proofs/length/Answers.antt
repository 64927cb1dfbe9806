-- `var_length::length` is right since after each turn the bytes passed are worth `value`, and what stands at `next` decides. Assumes nothing.
use mathlib.Core.Path.{sym, ◌∙◌}
use Prim.Native.Nat.{◌-◌}
use native.Mathlib.Omega.{arith}
use Rattle.var_length.proofs.Laws.{group_fits, unit_le, number_cut, number_ends, number_winded, number_long, one_passed}
use Rattle.var_length.proofs.length.Goals as goal

pub overflow_mul-n : goal.overflow_mul-n
overflow_mul-n c = omega (arith, group_fits c.loop-next.invariant c.widen-b.result c.if-b-lt128.true)

pub overflow_add-n : goal.overflow_add-n
overflow_add-n c = omega (arith, group_fits c.loop-next.invariant c.widen-b.result c.if-b-lt128.true)

pub overflow_mul-value : goal.overflow_mul-value
overflow_mul-value c = omega (arith, group_fits c.loop-next.invariant (c.widen-b.result - 128) (omega arith))

pub overflow_add-value : goal.overflow_add-value
overflow_add-value c = omega (arith, group_fits c.loop-next.invariant (c.widen-b.result - 128) (omega arith))

pub overflow_mul-unit : goal.overflow_mul-unit
overflow_mul-unit c = omega (arith, unit_le c.loop-next.invariant)

pub loop-next-preserved : goal.loop-next-preserved
loop-next-preserved c = one_passed c.loop-next.invariant (omega arith) c.widen-b.result c.widen-b.ensures c.if-b-lt128.false c.if-count-ge4.false

pub returns-then-s-next : goal.returns-then-s-next
returns-then-s-next c = number_cut c.loop-next.invariant c.if-s-next.true

pub returns-then-is_shortest : goal.returns-then-is_shortest
returns-then-is_shortest c = number_ends c.loop-next.invariant (omega arith) c.widen-b.result c.widen-b.ensures c.if-b-lt128.true (sym c.is_shortest.ensures ∙ c.if-is_shortest.true)

pub returns-else-is_shortest : goal.returns-else-is_shortest
returns-else-is_shortest c = number_winded c.loop-next.invariant (omega arith) c.widen-b.result c.widen-b.ensures c.if-b-lt128.true (sym c.is_shortest.ensures ∙ c.if-is_shortest.false)

pub returns-then-count-ge4 : goal.returns-then-count-ge4
returns-then-count-ge4 c = number_long c.loop-next.invariant (omega arith) c.widen-b.result c.widen-b.ensures c.if-b-lt128.false c.if-count-ge4.true
