-- `write_bytes::put_chunk` is right since N bytes in the place of as many are N stores. Assumes nothing.
use mathlib.Core.Path.{◌≡◌}
use Prim.Native.Nat.{◌+◌, ◌-◌}
use native.Mathlib.Omega.{arith}
use Rattle.write_bytes.proofs.Laws.{chunk_put}
use Rattle.write_bytes.proofs.put_chunk.Goals as goal

pub returns : goal.returns
returns g c =
    let a = c.args in
    let e = chunk_put a.out.now a.s.now a.at a.i g.row.N (omega arith) (omega arith) in
    let k : a.at + g.row.N - a.at ≡ g.row.N = omega arith in
    let j : a.i + g.row.N - a.i ≡ g.row.N = omega arith in
    rw (k, c.copy_from_slice-2.ensures.after, c.copy_from_slice.ensures.after, j) e
