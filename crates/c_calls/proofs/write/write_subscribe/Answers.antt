-- `c_calls::write::write_subscribe` is right since 20 comes first, and then the head and the lists are what is handed over. Assumes nothing.
use borrow.Author.Tests.{not-true, not-false}
use Rattle.c_calls.proofs.Laws.{written_off, written_fine}
use Rattle.c_calls.proofs.write.write_subscribe.Goals as goal

pub returns-then-not-by : goal.returns-then-not-by
returns-then-not-by c = rw (not-true c.args.by.zeros c.if-not-by.true) (written_off _ _ _ _)

pub returns : goal.returns
returns c = rw (not-false c.args.by.zeros c.if-not-by.false) (written_fine _ _ _ c.write.ensures)
