-- `write_bytes::put_chunks` is right since after each turn the first k bytes are put. Assumes nothing.
use native.Mathlib.Omega.{arith}
use Rattle.write_bytes.proofs.Laws.{put_more}
use Rattle.write_bytes.proofs.put_chunks.Goals as goal

pub loop-k-preserved : goal.loop-k-preserved
loop-k-preserved g c =
    let a = c.args in
    let l = c.loop-k in
    (omega arith, put_more a.out.now l.out _ a.s.now a.at l.k (omega arith) l.invariant.1 g.row.N c.put_chunk.ensures)
