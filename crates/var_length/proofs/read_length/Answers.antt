-- `var_length::read_length` is right since inside a frame a number cut off is a field that ends early. Assumes nothing.
use native.Mathlib.Omega.{arith}
use Rattle.reading.specs.Refusal.{cut}
use Rattle.var_length.proofs.Laws.{number_within}
use Rattle.var_length.proofs.read_length.Goals as goal

pub overflow_add-next : goal.overflow_add-next
overflow_add-next c =
    let e = rw c.in-Ok.is at (c.length.ensures cut) in
    omega (arith, number_within c.args.s.now c.args.at _ _ cut e)
