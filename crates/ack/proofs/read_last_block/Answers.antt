-- `ack::read_last_block` is right since a block is read only where bytes are left, and then no byte may follow it. Assumes nothing.
use mathlib.Core.Path.{◌∙◌}
use Rattle.records.proofs.Laws.{handed_on}
use Rattle.ack.proofs.Laws.{block_none, block_bad, bytes_after, block_ends}
use Rattle.ack.proofs.read_last_block.Goals as goal

pub returns-then-s-at : goal.returns-then-s-at
returns-then-s-at c = block_none _ _ c.if-s-at.true

pub returns-in_err-properties : goal.returns-in_err-properties
returns-in_err-properties c = handed_on _ _ _ c.from_residual.ensures.1 (block_bad _ _ c.if-s-at.false _ c.in_err-properties.ensures)

pub returns-then-next-s : goal.returns-then-next-s
returns-then-next-s c = bytes_after _ _ c.if-s-at.false _ _ c.in_ok-properties.ensures c.if-next-s.true

pub returns : goal.returns
returns c = block_ends _ _ c.if-s-at.false _ _ c.in_ok-properties.ensures c.if-next-s.false
