-- `filter_table::count_in` is right since each turn passes one filter, until none is read. Assumes nothing.
use native.Mathlib.Omega.{arith}
use Rattle.filter_table.proofs.Laws.{counted_room, counted_next, counted_end}
use Rattle.filter_table.proofs.count_in.Goals as goal

pub overflow_add-n : goal.overflow_add-n
overflow_add-n c = omega (arith, counted_room c.loop-next.invariant c.in-Ok.ensures)

pub loop-next-smaller : goal.loop-next-smaller
loop-next-smaller c = omega (arith, counted_room c.loop-next.invariant c.in-Ok.ensures)

pub loop-next-preserved : goal.loop-next-preserved
loop-next-preserved c = counted_next c.loop-next.invariant c.in-Ok.ensures

pub returns : goal.returns
returns c = counted_end c.loop-next.invariant c.in_default.ensures
