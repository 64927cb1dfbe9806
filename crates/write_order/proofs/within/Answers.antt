-- `write_order::within` is right since a limit is compared with the size, and where there is none nothing is tested. Assumes nothing.
use mathlib.Core.Path.{sym}
use mathlib.Core.Option.{some}
use native.Mathlib.Omega.{arith}
use Rattle.writing.specs.Order.{judge}
use Rattle.writing.proofs.Judge.{limit_pass, limit_fault}
use Rattle.write_order.proofs.within.Goals as goal

pub returns-then-m-size : goal.returns-then-m-size
returns-then-m-size c = rw c.in-Some.is (sym (limit_fault _ c.args.size (omega arith)))

pub returns-in-None : goal.returns-in-None
unfolding judge
returns-in-None c = rw c.in-None.is

pub returns-else-m-size : goal.returns-else-m-size
returns-else-m-size c = rw c.in-Some.is (sym (limit_pass (some _) c.args.size (omega arith)))
