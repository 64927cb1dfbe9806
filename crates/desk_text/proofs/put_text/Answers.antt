-- `desk_text::put_text` is right since each turn shows one byte, and what is left decides. Assumes nothing.
use mathlib.Core.Path.{◌≡◌}
use lib.ListN.{length}
use native.Mathlib.Omega.{arith}
use Rattle.desk_text.proofs.Laws.{showing_end, turn_full, turn_next, shows_none, shows_past}
use Rattle.desk_text.proofs.put_text.Goals as goal

pub returns-then-out-at : goal.returns-then-out-at
returns-then-out-at c = record { shows = shows_none _ _ _ _ _ c.if-out-at.true; within = omega arith; room = omega arith }

pub returns-then-s-from : goal.returns-then-s-from
returns-then-s-from c = record { shows = shows_past _ _ _ _ _ c.if-s-from.true; within = omega arith; room = omega arith }

pub returns-then-n-eq0 : goal.returns-then-n-eq0
returns-then-n-eq0 c = record { shows = turn_full c.loop-i.invariant c.loop-i-test.true c.put_piece-n.ensures c.if-n-eq0.true; within = omega (arith, c.loop-i.invariant.ahead); room = omega (arith, c.loop-i.invariant.within) }

pub loop-i-preserved : goal.loop-i-preserved
loop-i-preserved c = turn_next c.loop-i.invariant c.loop-i-test.true c.put_piece-n.ensures c.if-n-eq0.false

pub returns : goal.returns
returns c =
    let i = c.loop-i.invariant in
    let e : c.loop-i.i ≡ length c.args.s.now = omega (arith, i.ahead) in
    record { shows = rw e at (showing_end i (omega arith)); within = omega arith; room = omega (arith, i.within) }
