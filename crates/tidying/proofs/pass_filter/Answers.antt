-- `tidying::pass_filter` is right since a filter is passed where the grammar's ends, and else nothing is said. Assumes nothing.
use Rattle.tidying.proofs.Laws.Pass.{filter_found, filter_none}
use Rattle.tidying.proofs.pass_filter.Goals as goal

pub returns-in-Ok : goal.returns-in-Ok
returns-in-Ok c = filter_found c.args.s.now c.args.at (rw c.in-Ok.is at c.read_filter.ensures)

pub returns-in-Err : goal.returns-in-Err
returns-in-Err c = filter_none c.args.s.now c.args.at (rw c.in-Err.is at c.read_filter.ensures)
