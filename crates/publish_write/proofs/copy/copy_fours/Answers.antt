-- `publish_write::copy::copy_fours` is right since the two chunks reach each other. Assumes nothing.
use Prim.Native.Nat.{◌-◌}
use native.Mathlib.Omega.{arith}
use Rattle.write_bytes.proofs.Laws.{overlapped}
use Rattle.publish_write.proofs.copy.copy_fours.Goals as goal

pub returns : goal.returns
returns c =
    let a = c.args in
    overlapped a.s.now a.from a.n (a.n - 4) 4 (omega arith) (omega arith) 4 (omega arith) (omega arith) a.out.now _ _ a.at
    c.copy_four.ensures c.copy_four-2.ensures
