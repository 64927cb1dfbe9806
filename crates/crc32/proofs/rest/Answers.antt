-- `crc32::rest` is right since what is left decides. Assumes nothing.
use native.Mathlib.Omega.{arith}
use Rattle.crc32.proofs.Laws.{begin, one_more_lem, all_passed}
use Rattle.crc32.proofs.rest.Goals as goal

pub loop-b-init : goal.loop-b-init
loop-b-init c = begin _ _ _ (omega arith)

pub loop-b-preserved : goal.loop-b-preserved
loop-b-preserved c = one_more_lem c.loop-b.invariant c.one-x.ensures (omega arith)

pub returns : goal.returns
returns c = all_passed c.loop-b.invariant (omega arith)
