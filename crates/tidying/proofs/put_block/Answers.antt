-- `tidying::put_block` is right since each row of the table has its identifiers. Assumes nothing.
use Rattle.grammar.specs.Tables.{publish_row, subscribe_row, ack_row, unsubscribe_row}
use Rattle.tidying.proofs.put_block.Goals as goal

pub put_ordered-requires : goal.put_ordered-requires
unfolding publish_row
put_ordered-requires c = rw c.in-Publish.is

pub put_ordered-requires-in-Subscribe : goal.put_ordered-requires-in-Subscribe
unfolding subscribe_row
put_ordered-requires-in-Subscribe c = rw c.in-Subscribe.is

pub put_ordered-requires-in-Ack : goal.put_ordered-requires-in-Ack
unfolding ack_row
put_ordered-requires-in-Ack c = rw c.in-Ack.is

pub put_ordered-requires-in-Unsubscribe : goal.put_ordered-requires-in-Unsubscribe
unfolding unsubscribe_row
put_ordered-requires-in-Unsubscribe c = rw c.in-Unsubscribe.is
