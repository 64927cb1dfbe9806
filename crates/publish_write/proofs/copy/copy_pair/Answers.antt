-- `publish_write::copy::copy_pair` is right since the two chunks reach each other. Assumes nothing.
use Prim.Native.Nat.{◌-◌}
use native.Mathlib.Omega.{arith}
use Rattle.write_bytes.proofs.Laws.{overlapped}
use Rattle.publish_write.proofs.copy.copy_pair.Goals as goal

pub returns : goal.returns
returns c =
    let a = c.args in
    overlapped a.s.now a.from a.n (a.n - 2) 2 (omega arith) (omega arith) 2 (omega arith) (omega arith) a.out.now _ _ a.at
    c.copy_two.ensures c.copy_two-2.ensures
