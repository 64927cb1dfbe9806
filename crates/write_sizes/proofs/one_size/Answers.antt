-- `write_sizes::one_size` is right since a number of a form has as many bytes as its form. Assumes nothing.
use native.Mathlib.Omega.{arith}
use Rattle.write_sizes.proofs.one_size.Goals as goal

pub overflow_add-result : goal.overflow_add-result
overflow_add-result g c = omega (arith, g.met.T.Fixed.laws.small)
