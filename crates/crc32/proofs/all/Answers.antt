-- `crc32::all` is right since what is left decides, eight bytes at a time. Assumes nothing.
use native.Mathlib.Omega.{arith}
use Rattle.crc32.proofs.Laws.{begin, chunk_more, chunks_passed}
use Rattle.crc32.proofs.all.Goals as goal

pub loop-e-init : goal.loop-e-init
loop-e-init c = begin _ _ _ (omega arith)

pub loop-e-preserved : goal.loop-e-preserved
loop-e-preserved c = chunk_more _ c.loop-e.invariant c.as_chunks.ensures.front (omega (arith, c.as_chunks.ensures.front_len)) c.eight-r.ensures

pub returns : goal.returns
returns c = chunks_passed c.loop-e.invariant c.as_chunks.ensures.front_len c.as_chunks.ensures.back c.loop-e.auto.e-index-end c.loop-e-test.false c.rest.ensures
