-- `publish_write::copy::copy_sixteen` is right since two copies of eight bytes, one behind the other, are one. Assumes nothing.
use native.Mathlib.Omega.{arith}
use Rattle.publish_write.proofs.Lay.{sixteen}
use Rattle.publish_write.proofs.copy.copy_sixteen.Goals as goal

pub returns : goal.returns
returns c =
    let a = c.args in
    sixteen a.s.now a.i (omega arith) a.out.now _ _ a.at c.copy_eight.ensures c.copy_eight-2.ensures
