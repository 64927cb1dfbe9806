-- `tidying::put_filters` is right since each turn puts one filter where it stands, and what is left decides the rest. Assumes nothing.
use Prim.Native.Nat.{◌-◌}
use native.Mathlib.Omega.{arith}
use Rattle.tidying.proofs.Laws.Put.{mask_next, mask_end}
use Rattle.tidying.proofs.put_filters.Goals as goal

pub returns : goal.returns
returns c = mask_end c.args.s.now c.args.at c.args.out.now c.loop-i.invariant.1 (omega arith)

pub loop-i-preserved : goal.loop-i-preserved
loop-i-preserved c = (omega (arith, c.put_bytes.auto.out, c.put_byte.auto.out, c.loop-i.invariant.0), mask_next c.args.s.now c.args.at c.args.out.now c.loop-i.invariant.1 c.loop-i-test.true c.pass_filter-next.ensures c.piece.ensures.bytes c.put_bytes.ensures c.put_byte.ensures)
