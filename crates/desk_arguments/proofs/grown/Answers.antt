-- `desk_arguments::grown` is right since each test is one of the definition. Assumes nothing.
use Rattle.std.proofs.Common.{arith}
use Rattle.desk_arguments.proofs.Laws.{grow_low, grow_high, grow_past, grow_told}
use Rattle.desk_arguments.proofs.grown.Goals as goal

pub returns-in_err-d : goal.returns-in_err-d
returns-in_err-d c = rw c.from_residual.ensures (grow_low _ _ (omega (arith, c.in_err-d.ensures)))

pub returns-then-d-gt9 : goal.returns-then-d-gt9
returns-then-d-gt9 c = grow_high _ _ c.in_ok-d.ensures.0 (omega (arith, c.in_ok-d.ensures, c.if-d-gt9.true))

pub returns-in_err-checked_mul : goal.returns-in_err-checked_mul
returns-in_err-checked_mul c = rw c.from_residual-in_err-checked_mul.ensures (grow_past _ _ c.in_ok-d.ensures.0 (omega (arith, c.in_ok-d.ensures, c.if-d-gt9.false)) (omega (arith, c.in_err-checked_mul.ensures)))

pub returns : goal.returns
returns c = grow_told _ _ _ _ c.in_ok-d.ensures.0 (omega (arith, c.in_ok-d.ensures, c.if-d-gt9.false)) (omega (arith, c.in_ok-d.ensures, c.in_ok-checked_mul.ensures)) c.checked_add.ensures
