-- `c_journal::saves` is right since each way to end is one of the definition's. Assumes nothing.
use mathlib.Core.Path.{sym, ap, ◌∙◌}
use Rattle.journal.specs.Area.{left}
use Rattle.c_journal.proofs.Laws.{save_area, save_table, save_fine, journal_says, table_says}
use Rattle.c_journal.proofs.saves.Goals as goal

pub returns-then-not-is_whole : goal.returns-then-not-is_whole
returns-then-not-is_whole c = save_area _ _ (sym c.is_whole.ensures ∙ c.if-not-is_whole.true)

pub returns-in_err-table : goal.returns-in_err-table
returns-in_err-table c =
    ap (left c.args.area.now) (table_says _ c.from_residual.ensures.1)
    ∙ save_table _ _ (sym c.is_whole.ensures ∙ c.if-not-is_whole.false) c.in_err-table.ensures

pub returns-in_err-stored : goal.returns-in_err-stored
returns-in_err-stored c =
    ap (left c.save.new.area) (journal_says _ _ c.from_residual-in_err-stored.ensures.1)
    ∙ save_fine _ _ c.in_ok-table.ensures.0 c.in_ok-table.ensures.1 c.in_err-stored.ensures

pub returns : goal.returns
returns c = save_fine _ _ c.in_ok-table.ensures.0 c.in_ok-table.ensures.1 c.in_ok-stored.ensures
