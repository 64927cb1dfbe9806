-- `tidying::tidy_block` is right since front and rest are the tidy form, which is as long as the frame. Assumes nothing.
use native.Mathlib.Omega.{arith}
use Rattle.tables.specs.Property.{table_row}
use Rattle.tidying.proofs.Laws.Put.{laid_none, laid_put}
use Rattle.tidying.proofs.tidy_block.Goals as goal

pub returns : goal.returns
returns c = laid_put (table_row c.args.row) c.args.first c.args.s.now c.args.start c.args.end c.args.out.now c.put_front.ensures c.piece.ensures.bytes c.put_bytes.ensures (omega arith)

pub returns-then-out-size : goal.returns-then-out-size
returns-then-out-size c = laid_none (table_row c.args.row) c.args.first c.args.s.now c.args.start c.args.end c.args.out.now (omega arith)
