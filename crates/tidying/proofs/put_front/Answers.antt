-- `tidying::put_front` is right since each put goes on where the one before it ended. Assumes nothing.
use Rattle.tables.specs.Property.{table_row}
use Rattle.tidying.proofs.Laws.Put.{front_put}
use Rattle.tidying.proofs.put_front.Goals as goal

pub returns : goal.returns
returns c = front_put (table_row c.args.row) c.args.first c.args.s.now c.args.start c.args.end c.args.out.now c.put_byte.ensures c.piece.ensures.bytes c.put_bytes.ensures c.piece-2.ensures.bytes c.put_block.ensures
