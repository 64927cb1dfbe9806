-- `tidying::pass_property` is right since a property is passed where the grammar's ends, and else nothing is said. Assumes nothing.
use Rattle.tables.specs.Property.{table_row}
use Rattle.tidying.proofs.Laws.Pass.{passed_found, passed_none}
use Rattle.tidying.proofs.pass_property.Goals as goal

pub returns-in-Ok : goal.returns-in-Ok
returns-in-Ok c = passed_found (table_row c.args.row) c.args.s.now c.args.at (rw c.in-Ok.is at c.read_property.ensures.says)

pub returns-in-Err : goal.returns-in-Err
returns-in-Err c = passed_none (table_row c.args.row) c.args.s.now c.args.at (rw c.in-Err.is at c.read_property.ensures.says)
