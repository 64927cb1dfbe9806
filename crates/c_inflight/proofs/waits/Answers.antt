-- `c_inflight::waits` is right since each way to end is one of the definition's. Assumes nothing.
use mathlib.Core.Path.{sym, ◌∙◌}
use Rattle.c_inflight.proofs.Laws.{told_some, told_none}
use Rattle.c_inflight.proofs.waits.Goals as goal

pub returns-then-not-is_table : goal.returns-then-not-is_table
returns-then-not-is_table c = let t = told_none _ (sym c.is_table.ensures ∙ c.if-not-is_table.true) in record { number = t.0; value = t.1 }

pub returns : goal.returns
returns c = let t = told_some _ (sym c.is_table.ensures ∙ c.if-not-is_table.false) c.count.ensures in record { number = t.0; value = t.1 }
