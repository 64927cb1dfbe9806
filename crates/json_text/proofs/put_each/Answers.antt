-- `json_text::put_each` is right since each turn puts one byte, and what is left decides. Assumes nothing.
use native.Mathlib.Omega.{arith}
use Rattle.json_text.proofs.Laws.{putting_full, putting_next, putting_end, past_end}
use Rattle.json_text.proofs.put_each.Goals as goal

pub returns-then-out-at : goal.returns-then-out-at
returns-then-out-at g c = past_end g.F.Form.form _ _ _ c.if-out-at.true

pub returns-then-room-n : goal.returns-then-room-n
returns-then-room-n g c = putting_full g.F.Form.form c.loop-b.invariant c.loop-b-test.true c.put-n.ensures.count c.put-n.ensures.stores (omega (arith, c.if-room-n.true, c.loop-b.invariant.same))

pub loop-b-preserved : goal.loop-b-preserved
loop-b-preserved g c = putting_next g.F.Form.form c.loop-b.invariant c.loop-b-test.true c.put-n.ensures.count c.put-n.ensures.stores (omega (arith, c.if-room-n.false, c.loop-b.invariant.same))

pub returns : goal.returns
returns g c = putting_end g.F.Form.form c.loop-b.invariant c.loop-b-test.false
