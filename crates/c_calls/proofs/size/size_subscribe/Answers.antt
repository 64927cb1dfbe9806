-- `c_calls::size::size_subscribe` is right since 20 comes first, and then the head and the lists are what is handed over. Assumes nothing.
use borrow.Author.Tests.{not-true, not-false}
use Rattle.c_calls.proofs.Laws.{sized_off, sized_fine}
use Rattle.c_calls.proofs.size.size_subscribe.Goals as goal

pub returns-then-not-by : goal.returns-then-not-by
returns-then-not-by c = rw (not-true c.args.by.zeros c.if-not-by.true) (sized_off _ _)

pub returns : goal.returns
returns c = rw (not-false c.args.by.zeros c.if-not-by.false) (sized_fine _ c.size.ensures)
