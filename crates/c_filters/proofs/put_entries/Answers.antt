-- `c_filters::put_entries` is right since what is left to put is what is left of the entries; at the end that is nothing. Assumes nothing.
use native.Mathlib.Omega.{arith}
use Rattle.c_filters.proofs.Laws.{put_start, put_next, put_end}
use Rattle.c_filters.proofs.put_entries.Goals as goal

pub loop-i-init : goal.loop-i-init
loop-i-init c = put_start

pub put_entry-requires : goal.put_entry-requires
put_entry-requires c = omega (arith, c.requires, c.loop-i.invariant.same)

pub loop-i-preserved : goal.loop-i-preserved
loop-i-preserved c = put_next c.loop-i.invariant (omega arith) c.entry_at-e.ensures.is c.put_entry.ensures (omega arith)

pub returns : goal.returns
returns c = put_end c.loop-i.invariant (omega arith)
