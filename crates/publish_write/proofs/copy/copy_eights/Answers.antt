-- `publish_write::copy::copy_eights` is right since the two chunks reach each other. Assumes nothing.
use Prim.Native.Nat.{◌-◌}
use native.Mathlib.Omega.{arith}
use Rattle.write_bytes.proofs.Laws.{overlapped}
use Rattle.publish_write.proofs.copy.copy_eights.Goals as goal

pub returns : goal.returns
returns c =
    let a = c.args in
    overlapped a.s.now a.from a.n (a.n - 8) 8 (omega arith) (omega arith) 8 (omega arith) (omega arith) a.out.now _ _ a.at
    c.copy_eight.ensures c.copy_eight-2.ensures
