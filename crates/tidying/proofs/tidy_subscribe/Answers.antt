-- `tidying::tidy_subscribe` is right since front and filters are the tidy form, which is as long as the frame. Assumes nothing.
use native.Mathlib.Omega.{arith}
use Rattle.grammar.specs.Tables.{subscribe_row}
use Rattle.tidying.proofs.Laws.Put.{laid_none, masked_put}
use Rattle.tidying.proofs.tidy_subscribe.Goals as goal

pub returns : goal.returns
returns c = masked_put c.args.first c.args.s.now c.args.start c.args.end c.args.out.now c.put_front.ensures c.put_filters.ensures (omega arith)

pub returns-then-out-size : goal.returns-then-out-size
returns-then-out-size c = laid_none subscribe_row c.args.first c.args.s.now c.args.start c.args.end c.args.out.now (omega arith)
