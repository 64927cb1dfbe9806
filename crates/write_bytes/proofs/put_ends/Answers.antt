-- `write_bytes::put_ends` is right since the first N of n bytes reach the last N. Assumes nothing.
use native.Mathlib.Omega.{arith}
use mathlib.Core.Path.{◌≡◌}
use Prim.Native.Nat.{◌+◌, ◌-◌}
use Rattle.write_bytes.proofs.Laws.{overlapped}
use Rattle.write_bytes.proofs.put_ends.Goals as goal

pub returns : goal.returns
returns g c =
    let a = c.args in
    let n = g.row.N in
    let e : 0 + (a.n - n) ≡ a.n - n = omega arith in
    overlapped a.s.now 0 a.n (a.n - n) n (omega arith) (omega arith) n (omega arith) (omega arith) a.out.now _ _ a.at (rw e c.put_chunk.ensures) c.put_chunk-2.ensures
