-- `properties::block::read_room` meets its contract: the length is what `read_length` read, and as many bytes are left behind it or not.
-- Assumes nothing.
use native.Mathlib.Omega.{arith}
use Rattle.records.proofs.Laws.{handed_on}
use Rattle.properties.proofs.Laws.Block.{length_within, room_short, room_over, room_within}
use Rattle.properties.proofs.block.read_room.Goals as goal

pub returns-in_err-n : goal.returns-in_err-n
returns-in_err-n c = handed_on _ _ _ c.from_residual.ensures.1 (room_short _ _ _ c.in_err-n.ensures)

pub overflow_sub-s : goal.overflow_sub-s
overflow_sub-s c = length_within _ _ _ _ c.in_ok-n.ensures

pub returns-then-s-start : goal.returns-then-s-start
returns-then-s-start c = room_over _ _ _ _ c.in_ok-n.ensures (omega arith)

pub returns : goal.returns
returns c =
    let e = c.in_ok-n.ensures in
    room_within _ _ _ _ e (omega (arith, length_within _ _ _ _ e))
