-- `write_properties::put_if` is right since the identifier byte and the number behind it are one put. Assumes nothing.
use native.Mathlib.Omega.{arith}
use Rattle.write_properties.proofs.Laws.{put_wide}
use Rattle.write_properties.proofs.put_if.Goals as goal

pub overflow_add-result : goal.overflow_add-result
overflow_add-result g c = omega (arith, g.met.T.Fixed.laws.small)

pub returns-in-Some : goal.returns-in-Some
returns-in-Some g c =
    let a = c.args in
    rw (c.in-Some.is, c.WIDTH.ensures) (put_wide a.id g.T.Fixed.form g.T.Fixed.WIDTH _ c.put.ensures.row a.out.now _ _ a.at _ c.put_id-next.ensures c.put.ensures.stores)
