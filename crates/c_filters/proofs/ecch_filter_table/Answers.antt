-- `c_filters::ecch_filter_table` is right since the plan says which entries are put and what is answered. Assumes nothing.
use native.Mathlib.Omega.{arith}
use mathlib.Core.Path.{ap, ◌∙◌}
use Rattle.c_filters.specs.Numbers.{table_number}
use Rattle.c_filters.proofs.Laws.{table_stored, answer_stored}
use Rattle.c_filters.proofs.ecch_filter_table.Goals as goal

pub put_entries-requires : goal.put_entries-requires
put_entries-requires c = omega (arith, c.plan_of-p.ensures.plan.room)

pub returns : goal.returns
returns c =
    let a = c.args in
    let p = c.plan_of-p.ensures in
    record { number = c.store_answer.ensures.number ∙ ap table_number p.plan.answer; filled = table_stored a.table.now p c.put_entries.ensures; stored = answer_stored a.table.now p a.answer.now c.store_answer.ensures.stored }
