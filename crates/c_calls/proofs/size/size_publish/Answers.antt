-- `c_calls::size::size_publish` is right since 20 and the QoS come first, and then the head and the lists are what is handed over. Assumes nothing.
use borrow.Author.Tests.{not-true, not-false}
use Rattle.c_calls.proofs.Laws.{sized_off, sized_bad, sized_fine}
use Rattle.c_calls.proofs.size.size_publish.Goals as goal

pub returns-then-not-by : goal.returns-then-not-by
returns-then-not-by c = rw (not-true c.args.by.zeros c.if-not-by.true) (sized_off _ _)

pub returns-in-Err : goal.returns-in-Err
returns-in-Err c = rw (not-false c.args.by.zeros c.if-not-by.false, c.in-Err.is) (sized_bad _ _ (c.mismatch_or.ensures c.args.topic.now c.args.payload.now))

pub returns-in-Ok : goal.returns-in-Ok
returns-in-Ok c = rw (not-false c.args.by.zeros c.if-not-by.false, c.in-Ok.is) (sized_fine _ c.size.ensures)
