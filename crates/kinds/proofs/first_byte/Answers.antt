-- `kinds::first_byte` is right since the table, looked up at each number of the match, says what its arm says. Assumes nothing.
use Rattle.grammar.specs.Tables.{firsts, first_of}
use Rattle.tables.proofs.Laws.{lookup_absent}
use Rattle.kinds.proofs.first_byte.Goals as goal

pub returns-in-4 : goal.returns-in-4
unfolding firsts first_of
returns-in-4 c = rw c.in-4.is

pub returns-in-5 : goal.returns-in-5
unfolding firsts first_of
returns-in-5 c = rw c.in-5.is

pub returns-in-6 : goal.returns-in-6
unfolding firsts first_of
returns-in-6 c = rw c.in-6.is

pub returns-in-7 : goal.returns-in-7
unfolding firsts first_of
returns-in-7 c = rw c.in-7.is

pub returns-in-8 : goal.returns-in-8
unfolding firsts first_of
returns-in-8 c = rw c.in-8.is

pub returns-in-9 : goal.returns-in-9
unfolding firsts first_of
returns-in-9 c = rw c.in-9.is

pub returns-in-10 : goal.returns-in-10
unfolding firsts first_of
returns-in-10 c = rw c.in-10.is

pub returns-in-11 : goal.returns-in-11
unfolding firsts first_of
returns-in-11 c = rw c.in-11.is

pub returns-in-12 : goal.returns-in-12
unfolding firsts first_of
returns-in-12 c = rw c.in-12.is

pub returns-in-13 : goal.returns-in-13
unfolding firsts first_of
returns-in-13 c = rw c.in-13.is

pub returns-in-0-to-3 : goal.returns-in-0-to-3
unfolding first_of firsts
returns-in-0-to-3 c = rw (lookup_absent firsts c.args.num c.in-0-to-3.in-0-to-3-own.rest)
