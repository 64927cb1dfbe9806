-- `c_journal::put_found` is right since a bad area is the one number that stores nothing. Assumes nothing.
use borrow.Author.Tests.{ne_eqb}
use Rattle.c_journal.proofs.put_found.Goals as goal

pub returns-then-number-ne-BAD_AREA : goal.returns-then-number-ne-BAD_AREA
returns-then-number-ne-BAD_AREA c = rw (ne_eqb c.args.number 32 c.if-number-ne-BAD_AREA.true) c.put_codes.ensures

pub returns-else-number-ne-BAD_AREA : goal.returns-else-number-ne-BAD_AREA
returns-else-number-ne-BAD_AREA c = rw c.if-number-ne-BAD_AREA.false
