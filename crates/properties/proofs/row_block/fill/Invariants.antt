use Rattle.records.specs.Said.{told_properties}
use Rattle.tables.specs.Property.{table_row, other_of}
use Rattle.properties.specs.Block.{props_row}
use Rattle.properties.proofs.Laws.Fold.{FillingBy, left_from}
use Rattle.properties.proofs.row_block.fill.Given as goal

abbrev pub invariant-loop-at : goal.invariant-loop-at
invariant-loop-at l = (FillingBy (props_row (table_row (other_of l.row))) told_properties) l.s l.initial.p l.initial.at l.p l.at

abbrev pub decreases-loop-at : goal.decreases-loop-at
decreases-loop-at l = left_from l.s l.initial.p l.initial.at l.p l.at
