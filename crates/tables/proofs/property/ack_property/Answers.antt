-- `tables::property::ack_property` meets its contract: each arm names an entry of the row, and the gaps are the numbers of none. Assumes nothing.
use mathlib.Core.Path.{sym}
use Rattle.grammar.specs.Tables.{ack_row}
use Rattle.tables.proofs.Laws.{lookup_absent}
use Rattle.tables.proofs.property.ack_property.Goals as goal

pub returns-in-31 : goal.returns-in-31
unfolding ack_row
returns-in-31 c = rw c.in-31.is

pub returns-in-38 : goal.returns-in-38
unfolding ack_row
returns-in-38 c = rw c.in-38.is

pub returns-in-0-to-30 : goal.returns-in-0-to-30
unfolding ack_row
returns-in-0-to-30 c = sym (lookup_absent ack_row.forms c.args.num c.in-0-to-30.in-0-to-30-own.rest)
