-- `kinds::word_of` is right since each kind that is carried has its own arm; a number that is left over has no word. Assumes nothing.
use Rattle.tables.proofs.Laws.{lookup_absent}
use Rattle.kinds.specs.Kinds.{words, word_of}
use Rattle.kinds.proofs.word_of.Goals as goal

pub returns-in-3 : goal.returns-in-3
unfolding words word_of
returns-in-3 c = rw c.in-3.is c.worded.ensures

pub returns-in-4 : goal.returns-in-4
unfolding words word_of
returns-in-4 c = rw c.in-4.is c.worded-in-4.ensures

pub returns-in-5 : goal.returns-in-5
unfolding words word_of
returns-in-5 c = rw c.in-5.is c.worded-in-5.ensures

pub returns-in-6 : goal.returns-in-6
unfolding words word_of
returns-in-6 c = rw c.in-6.is c.worded-in-6.ensures

pub returns-in-7 : goal.returns-in-7
unfolding words word_of
returns-in-7 c = rw c.in-7.is c.worded-in-7.ensures

pub returns-in-8 : goal.returns-in-8
unfolding words word_of
returns-in-8 c = rw c.in-8.is c.worded-in-8.ensures

pub returns-in-9 : goal.returns-in-9
unfolding words word_of
returns-in-9 c = rw c.in-9.is c.worded-in-9.ensures

pub returns-in-10 : goal.returns-in-10
unfolding words word_of
returns-in-10 c = rw c.in-10.is c.worded-in-10.ensures

pub returns-in-11 : goal.returns-in-11
unfolding words word_of
returns-in-11 c = rw c.in-11.is c.worded-in-11.ensures

pub returns-in-12 : goal.returns-in-12
unfolding words word_of
returns-in-12 c = rw c.in-12.is c.worded-in-12.ensures

pub returns-in-13 : goal.returns-in-13
unfolding words word_of
returns-in-13 c = rw c.in-13.is c.worded-in-13.ensures

pub returns-in-0-to-2 : goal.returns-in-0-to-2
unfolding word_of words
returns-in-0-to-2 c = rw (lookup_absent words c.args.num c.in-0-to-2.in-0-to-2-own.rest) c.worded-in-0-to-2.ensures
