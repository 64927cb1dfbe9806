-- `filter_table::plan_run` is right since the filters at the place are counted. Assumes nothing.
use mathlib.Core.Path.{sym, ◌∙◌}
use borrow.Author.Tests.{leb-false}
use Rattle.filter_table.proofs.Laws.{plan_fits, plan_full, plan_outside}
use Rattle.filter_table.proofs.plan_run.Goals as goal
use Rattle.filter_table.proofs.plan_run.Goals.{else-within-via-then-within+else-count-places, else-within-via-else-within}

pub returns-then-count-places : goal.returns-then-count-places
returns-then-count-places c = plan_fits c.count_at-count.ensures c.if-count-places.true

pub returns : goal.returns
returns c =
    rw c.unfilled.ensures
    (elim c.else-within.branch [
      | else-within-via-then-within+else-count-places w ↦ plan_full c.count_at-count.ensures w.if-count-places.false
      | else-within-via-else-within w ↦ plan_outside (leb-false _ _ (sym c.within.ensures ∙ w.if-within.false))
    ])
