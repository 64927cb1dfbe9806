-- `write_bytes::put_fit` is right since the chunks from the front reach the last one. Assumes nothing.
use native.Mathlib.Omega.{arith}
use mathlib.Core.Path.{◌≡◌}
use Prim.Native.Nat.{◌+◌, ◌-◌}
use Rattle.write_bytes.proofs.Laws.{overlapped}
use Rattle.write_bytes.proofs.put_fit.Goals as goal

pub returns-in_default : goal.returns-in_default
returns-in_default c =
    let a = c.args in
    let k = c.put_chunks in
    let e : 0 + (a.n - 32) ≡ a.n - 32 = omega arith in
    overlapped a.s.now 0 a.n (a.n - 32) 32 (omega arith) (omega arith) k.result (omega (arith, k.ensures)) (omega (arith, k.ensures)) a.out.now _ _ a.at (rw e c.put_chunk.ensures) k.ensures.2
