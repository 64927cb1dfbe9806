-- `kinds::row_of` is right since the table, looked up at each number of the match, says what its arm says. Assumes nothing.
use Rattle.grammar.specs.Tables.{kinds, row_of_kind}
use Rattle.tables.proofs.Laws.{lookup_absent}
use Rattle.kinds.proofs.row_of.Goals as goal

pub returns-in-3 : goal.returns-in-3
unfolding kinds row_of_kind
returns-in-3 c = rw c.in-3.is

pub returns-in-4 : goal.returns-in-4
unfolding kinds row_of_kind
returns-in-4 c = rw c.in-4.is

pub returns-in-5 : goal.returns-in-5
unfolding kinds row_of_kind
returns-in-5 c = rw c.in-5.is

pub returns-in-6 : goal.returns-in-6
unfolding kinds row_of_kind
returns-in-6 c = rw c.in-6.is

pub returns-in-7 : goal.returns-in-7
unfolding kinds row_of_kind
returns-in-7 c = rw c.in-7.is

pub returns-in-8 : goal.returns-in-8
unfolding kinds row_of_kind
returns-in-8 c = rw c.in-8.is

pub returns-in-9 : goal.returns-in-9
unfolding kinds row_of_kind
returns-in-9 c = rw c.in-9.is

pub returns-in-10 : goal.returns-in-10
unfolding kinds row_of_kind
returns-in-10 c = rw c.in-10.is

pub returns-in-11 : goal.returns-in-11
unfolding kinds row_of_kind
returns-in-11 c = rw c.in-11.is

pub returns-in-12 : goal.returns-in-12
unfolding kinds row_of_kind
returns-in-12 c = rw c.in-12.is

pub returns-in-13 : goal.returns-in-13
unfolding kinds row_of_kind
returns-in-13 c = rw c.in-13.is

pub returns-in-0-to-2 : goal.returns-in-0-to-2
unfolding row_of_kind kinds
returns-in-0-to-2 c = rw (lookup_absent kinds c.args.num c.in-0-to-2.in-0-to-2-own.rest)
