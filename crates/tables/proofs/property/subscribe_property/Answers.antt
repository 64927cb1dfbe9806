-- `tables::property::subscribe_property` meets its contract: each arm names an entry of the row, and the gaps are the numbers of none. Assumes nothing.
use mathlib.Core.Path.{sym}
use Rattle.grammar.specs.Tables.{subscribe_row}
use Rattle.tables.proofs.Laws.{lookup_absent}
use Rattle.tables.proofs.property.subscribe_property.Goals as goal

pub returns-in-11 : goal.returns-in-11
unfolding subscribe_row
returns-in-11 c = rw c.in-11.is

pub returns-in-38 : goal.returns-in-38
unfolding subscribe_row
returns-in-38 c = rw c.in-38.is

pub returns-in-0-to-10 : goal.returns-in-0-to-10
unfolding subscribe_row
returns-in-0-to-10 c = sym (lookup_absent subscribe_row.forms c.args.num c.in-0-to-10.in-0-to-10-own.rest)
