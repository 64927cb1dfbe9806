-- `json_text::behind` is right since an end beyond the room is none. Assumes nothing.
use native.Mathlib.Omega.{arith}
use Rattle.json_text.proofs.Laws.{end_fits, end_lost}
use Rattle.json_text.proofs.behind.Goals as goal

pub returns-then-room-at : goal.returns-then-room-at
returns-then-room-at c = end_lost _ _ (omega (arith, c.if-room-at.true))

pub returns-then-room-at-2 : goal.returns-then-room-at-2
returns-then-room-at-2 c = end_lost _ _ (omega (arith, c.if-room-at-2.true))

pub returns : goal.returns
returns c = end_fits _ _ (omega (arith, c.if-room-at-2.false, c.if-room-at.false))
