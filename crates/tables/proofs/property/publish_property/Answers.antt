-- `tables::property::publish_property` meets its contract: each arm names an entry of the row, and the gaps are the numbers of none. Assumes nothing.
use mathlib.Core.Logic.{⊎_elim}
use mathlib.Core.Path.{sym}
use Rattle.grammar.specs.Tables.{publish_row}
use Rattle.tables.proofs.Laws.{lookup_absent}
use Rattle.tables.proofs.property.publish_property.Goals as goal

pub returns-in-1 : goal.returns-in-1
unfolding publish_row
returns-in-1 c = rw c.in-1.is

pub returns-in-2 : goal.returns-in-2
unfolding publish_row
returns-in-2 c = rw c.in-2.is

pub returns-in-35 : goal.returns-in-35
unfolding publish_row
returns-in-35 c = rw c.in-35.is

pub returns-in-8 : goal.returns-in-8
unfolding publish_row
returns-in-8 c = rw c.in-8.is

pub returns-in-9 : goal.returns-in-9
unfolding publish_row
returns-in-9 c = rw c.in-9.is

pub returns-in-38 : goal.returns-in-38
unfolding publish_row
returns-in-38 c = rw c.in-38.is

pub returns-in-11 : goal.returns-in-11
unfolding publish_row
returns-in-11 c = rw c.in-11.is

pub returns-in-3 : goal.returns-in-3
unfolding publish_row
returns-in-3 c = rw c.in-3.is

pub returns-in-0 : goal.returns-in-0
unfolding publish_row
returns-in-0 c = ⊎_elim (λ h. rw h) (λ h. rw h) c.in-0.in-0-own.keys9

pub returns-in-0-2 : goal.returns-in-0-2
unfolding publish_row
returns-in-0-2 c = sym (lookup_absent publish_row.forms c.args.num c.in-0.in-0-own.rest.0)
