-- `unsubscribe::read_topics` is right since each turn passes one topic, and what stands at `i` decides. Assumes nothing.
use Prim.Native.Nat.{◌-◌}
use native.Mathlib.Omega.{arith}
use mathlib.Core.Path.{sym}
use Rattle.positions.proofs.Less.{text_less}
use Rattle.positions.proofs.Trails.{trails_text}
use Rattle.positions.proofs.Run.{item_ahead}
use Rattle.positions.proofs.Runs.{run_empty, going_bad, going_next, going_end}
use Rattle.reading.specs.Place.{as_places}
use Rattle.records.proofs.Laws.{handed_on}
use Rattle.unsubscribe.proofs.read_topics.Goals as goal

pub returns-then-s-at : goal.returns-then-s-at
returns-then-s-at c = run_empty _ c.args.s.now c.args.at (omega arith)

pub returns-in_err-next : goal.returns-in_err-next
returns-in_err-next c = handed_on _ _ _ c.from_residual.ensures.1 (going_bad _ (text_less _) c.loop-i.invariant c.loop-i-test.true c.in_err-next.ensures)

pub loop-i-smaller : goal.loop-i-smaller
loop-i-smaller c =
    let h = item_ahead c.args.s.now (text_less _) (trails_text as_places _) c.loop-i-test.true (sym c.in_ok-next.ensures) in
    omega (arith, h)

pub loop-i-preserved : goal.loop-i-preserved
loop-i-preserved c = going_next _ (text_less _) c.loop-i.invariant (trails_text as_places _) c.loop-i-test.true c.in_ok-next.ensures

pub returns : goal.returns
returns c = going_end _ (text_less _) c.loop-i.invariant (omega arith) (omega arith)
