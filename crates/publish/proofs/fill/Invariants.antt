use Rattle.properties.specs.Block.{publish_record}
use Rattle.publish.specs.Singles.{told_singles}
use Rattle.properties.proofs.Laws.Fold.{FillingBy, left_from}
use Rattle.publish.proofs.fill.Given as goal

abbrev pub invariant-loop-at : goal.invariant-loop-at
invariant-loop-at l = FillingBy publish_record told_singles l.s l.initial.p l.initial.at l.p l.at

abbrev pub decreases-loop-at : goal.decreases-loop-at
decreases-loop-at l = left_from l.s l.initial.p l.initial.at l.p l.at
