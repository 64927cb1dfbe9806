-- `c_inflight::ecch_inflight_start` is right since every byte is cleared where there is one for each identifier. Assumes nothing.
use mathlib.Core.Path.{refl, ◌∙◌}
use native.Mathlib.Omega.{arith}
use Rattle.c_inflight.proofs.Laws.{start_fine, start_bad}
use Rattle.c_inflight.proofs.ecch_inflight_start.Goals as goal

pub returns-then-table-ne-LIMIT : goal.returns-then-table-ne-LIMIT
returns-then-table-ne-LIMIT c = start_bad _ c.if-table-ne-LIMIT.true refl

pub returns : goal.returns
returns c = start_fine _ (omega arith) (c.fill.ensures.after (λ y e. e) ∙ rw c.code.ensures)
