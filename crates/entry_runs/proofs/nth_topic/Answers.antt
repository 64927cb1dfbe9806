-- `entry_runs::nth_topic` is right since each turn passes one topic and keeps the n-th of those passed. Assumes nothing.
use mathlib.Core.Path.{ap, sym, ◌∙◌}
use native.Mathlib.Omega.{arith}
use Rattle.reading.specs.Place.{as_places}
use Rattle.positions.proofs.Less.{text_less}
use Rattle.positions.proofs.Trails.{trails_text}
use Rattle.positions.proofs.Run.{item_ahead}
use Rattle.positions.proofs.Nth.{counting_bad, counting_next, counting_end}
use Rattle.records.specs.Answered.{told_topic_item}
use Rattle.entry_runs.proofs.Laws.{kept_topic}
use Rattle.entry_runs.proofs.nth_topic.Goals as goal

pub returns-in_default : goal.returns-in_default
returns-in_default c =
    let a = c.args in
    counting_bad a.s.now (text_less _) c.loop-i.invariant c.loop-i-test.true (c.in_default.ensures)

pub loop-i-smaller : goal.loop-i-smaller
loop-i-smaller c =
    let a = c.args in
    let h = item_ahead a.s.now (text_less _) (trails_text as_places _) c.loop-i-test.true (sym (c.in-Ok.ensures)) in
    omega (arith, h)

pub loop-i-preserved : goal.loop-i-preserved
loop-i-preserved c =
    let a = c.args in
    counting_next a.s.now (text_less _) c.loop-i.invariant (trails_text as_places _) c.loop-i-test.true _ (c.in-Ok.ensures) (ap told_topic_item c.choose-item.ensures ∙ kept_topic c.loop-i.item _ _ a.n)

pub returns : goal.returns
returns c =
    let a = c.args in
    counting_end a.s.now (text_less _) c.loop-i.invariant c.loop-i-test.false
