-- `publish::read_publish_block` meets its contract: the room of the block is what `read_room` found; with no byte in it the block is absent,
-- else it is what `fill` makes of the slice that ends with it. Assumes nothing.
use mathlib.Core.Path.{sym, ◌∙◌}
use native.Mathlib.Omega.{arith}
use lib.Seq.{length-take-le}
use Rattle.records.proofs.Laws.{handed_on}
use Rattle.properties.specs.Block.{publish_record}
use Rattle.properties.proofs.Laws.Fold.{publish_lawful}
use Rattle.properties.proofs.Laws.Block.{room_inside, block_bad, block_absent, block_present}
use Rattle.publish.proofs.read_publish_block.Goals as goal

pub returns-in_err-block : goal.returns-in_err-block
returns-in_err-block c = handed_on _ _ _ c.from_residual.ensures.1 (block_bad _ _ publish_record c.in_err-block.ensures)

pub returns-then-block-eq0 : goal.returns-then-block-eq0
returns-then-block-eq0 c = block_absent _ _ publish_lawful c.in_ok-block.ensures c.if-block-eq0.true

pub slice_bounds-fill-end : goal.slice_bounds-fill-end
slice_bounds-fill-end c = sym (length-take-le _ _ (omega (arith, room_inside c.args.s.now c.args.at c.in_ok-block.ensures)))

pub returns : goal.returns
returns c = c.fill.ensures ∙ block_present _ _ publish_lawful c.in_ok-block.ensures c.if-block-eq0.false
