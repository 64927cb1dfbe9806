-- `c_pieces::end_of` is right since each number is tried in turn. Assumes nothing.
use borrow.Author.Tests.{eq-eqb, ne_eqb}
use Rattle.c_pieces.proofs.end_of.Goals as goal

pub returns-then-number-eq0 : goal.returns-then-number-eq0
returns-then-number-eq0 c = rw (eq-eqb _ 0 c.if-number-eq0.true)

pub returns-then-number-eq2 : goal.returns-then-number-eq2
returns-then-number-eq2 c = rw (ne_eqb _ 0 c.if-number-eq0.false, eq-eqb _ 2 c.if-number-eq2.true)

pub returns-then-number-eq3 : goal.returns-then-number-eq3
returns-then-number-eq3 c = rw (ne_eqb _ 0 c.if-number-eq0.false, ne_eqb _ 2 c.if-number-eq2.false, eq-eqb _ 3 c.if-number-eq3.true)

pub returns-then-number-eq36 : goal.returns-then-number-eq36
returns-then-number-eq36 c = rw (ne_eqb _ 0 c.if-number-eq0.false, ne_eqb _ 2 c.if-number-eq2.false, ne_eqb _ 3 c.if-number-eq3.false, eq-eqb _ 36 c.if-number-eq36.true)

pub returns : goal.returns
returns c = rw (ne_eqb _ 0 c.if-number-eq0.false, ne_eqb _ 2 c.if-number-eq2.false, ne_eqb _ 3 c.if-number-eq3.false, ne_eqb _ 36 c.if-number-eq36.false)
