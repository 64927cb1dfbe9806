-- `alias::find_topic` is right since the packet has a topic, or the table has it. Assumes nothing.
use mathlib.Core.Path.{sym, ap, ◌∙◌}
use Rattle.reading.specs.Reader.{got}
use Rattle.alias.proofs.Laws.{permits, handed_on, force_bad, force_own, force_stored}
use Rattle.alias.proofs.find_topic.Goals as goal

pub returns-in_err-judge : goal.returns-in_err-judge
returns-in_err-judge c =
    handed_on _ _ _ c.from_residual.ensures.1 (force_bad _ _ _ _ _ c.part-topic.ensures.bytes _ c.in_err-judge.ensures)

pub returns-then-topic-gt0 : goal.returns-then-topic-gt0
returns-then-topic-gt0 c = force_own _ _ _ _ _ c.part-topic.ensures.bytes c.in_ok-judge.ensures c.if-topic-gt0.true

pub stored_place-requires : goal.stored_place-requires
stored_place-requires c = let p = permits _ _ _ (sym c.in_ok-judge.ensures) in (p.good, p.valid)

pub returns : goal.returns
returns c =
    ap got c.stored_place.ensures ∙ force_stored _ _ _ _ _ c.part-topic.ensures.bytes c.in_ok-judge.ensures c.if-topic-gt0.false
