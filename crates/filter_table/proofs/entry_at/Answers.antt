-- `filter_table::entry_at` is right since the part is the bytes before `end`. Assumes nothing.
use Rattle.filter_table.proofs.Laws.{entry_got, entry_bad}
use Rattle.filter_table.proofs.entry_at.Goals as goal

pub returns-in-Err : goal.returns-in-Err
returns-in-Err c = entry_bad _ _ _ (rw (c.in-Err.is, c.part.ensures.bytes) at c.read_filter.ensures)

pub returns-in-Ok : goal.returns-in-Ok
returns-in-Ok c = entry_got _ _ _ (rw (c.in-Ok.is, c.part.ensures.bytes) at c.read_filter.ensures) c.to_entry-entry.ensures
