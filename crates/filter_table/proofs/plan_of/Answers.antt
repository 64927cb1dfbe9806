-- `filter_table::plan_of` is right since only an accepted Subscribe has filters. Assumes nothing.
use mathlib.Core.Path.{refl}
use Rattle.filter_table.proofs.Laws.{plan_refused, plan_other, plan_subscribe, other_run}
use Rattle.filter_table.proofs.plan_of.Goals as goal

pub returns-in-Err : goal.returns-in-Err
returns-in-Err c = rw c.unfilled.ensures (plan_refused _ _ c.in-Err.e c.in-Err.taken (rw c.in-Err.is at c.read.ensures.answer.answer))

pub returns-in-Subscribe : goal.returns-in-Subscribe
returns-in-Subscribe c =
    plan_subscribe _ _ c.in-Ok.taken _ (rw (c.in-Ok.is, c.in-Subscribe.is) at c.read.ensures.answer.answer) refl c.plan_run.ensures

pub returns-in_default : goal.returns-in_default
returns-in_default c =
    rw c.unfilled-in_default.ensures
    (plan_other _ _ _ c.in-Ok.taken (rw c.in-Ok.is at c.read.ensures.answer.answer) (other_run c.in-Ok.p c.in-Ok.taken c.in_default.not-Subscribe))
