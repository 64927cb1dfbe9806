-- `tables::property::unsubscribe_property` meets its contract: the arm names the entry of the row, and the gaps are the numbers of none. Assumes nothing.
use mathlib.Core.Path.{sym}
use Rattle.grammar.specs.Tables.{unsubscribe_row}
use Rattle.tables.proofs.Laws.{lookup_absent}
use Rattle.tables.proofs.property.unsubscribe_property.Goals as goal

pub returns-in-38 : goal.returns-in-38
unfolding unsubscribe_row
returns-in-38 c = rw c.in-38.is

pub returns-in-0-to-37 : goal.returns-in-0-to-37
unfolding unsubscribe_row
returns-in-0-to-37 c = sym (lookup_absent unsubscribe_row.forms c.args.num c.in-0-to-37.in-0-to-37-own.rest)
