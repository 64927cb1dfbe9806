-- `publish_write::copy::copy_sixteens` is right since the sixteens from the front on reach the last. Assumes nothing.
use Prim.Native.Nat.{◌-◌}
use native.Mathlib.Omega.{arith}
use Rattle.write_bytes.proofs.Laws.{overlapped}
use Rattle.publish_write.proofs.copy.copy_sixteens.Goals as goal

pub returns : goal.returns
returns c =
    let a = c.args in
    let u = c.copy_up.ensures in
    overlapped a.s.now a.from a.n (a.n - 16) 16 (omega arith) (omega arith) _ u.0 (omega (arith, u.1)) a.out.now _ _ a.at
    c.copy_sixteen.ensures u.2
