-- `c_inflight::is_table` is right since the two tests are the definition's. Assumes nothing.
use native.Mathlib.Omega.{arith}
use Rattle.c_inflight.proofs.Laws.{not_long, as_states}
use Rattle.c_inflight.proofs.is_table.Goals as goal

pub returns-then-codes-ne-LIMIT : goal.returns-then-codes-ne-LIMIT
returns-then-codes-ne-LIMIT c = not_long _ c.if-codes-ne-LIMIT.true

pub returns : goal.returns
returns c = as_states _ (omega arith) c.all_states.ensures
