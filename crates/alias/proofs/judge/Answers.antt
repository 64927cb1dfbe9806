-- `alias::judge` is right since the table is tested first, and the rest goes by the alias. Assumes nothing.
use mathlib.Core.Path.{sym, ◌∙◌}
use Rattle.alias.proofs.Laws.{bad_size, bad_length, permit_table}
use Rattle.alias.proofs.judge.Goals as goal
use Rattle.alias.proofs.judge.Goals.{then-table-ne2064-via-then-table-ne2064, then-table-ne2064-via-else-table-ne2064+then-not-lengths_good}

pub returns-then-table-ne2064 : goal.returns-then-table-ne2064
returns-then-table-ne2064 c =
    let a = c.args in
    permit_table a.table.now a.topic.now _
    (elim c.then-table-ne2064.branch [
      | then-table-ne2064-via-then-table-ne2064 w ↦ bad_size a.table.now w.if-table-ne2064.true
      | then-table-ne2064-via-else-table-ne2064+then-not-lengths_good w ↦
          bad_length a.table.now w.if-table-ne2064.false (sym w.if-not-lengths_good.true ∙ w.lengths_good.ensures)
    ])
