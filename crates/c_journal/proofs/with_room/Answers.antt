-- `c_journal::with_room` is right since each test is the definition's. Assumes nothing.
use Rattle.c_journal.proofs.Laws.{room_bad, room_short, room_fine}
use Rattle.c_journal.proofs.with_room.Goals as goal

pub returns-then-number-eq-BAD_AREA : goal.returns-then-number-eq-BAD_AREA
returns-then-number-eq-BAD_AREA c = room_bad _ _ c.if-number-eq-BAD_AREA.true

pub returns-then-room-lt-LIMIT : goal.returns-then-room-lt-LIMIT
returns-then-room-lt-LIMIT c = room_short _ _ c.if-number-eq-BAD_AREA.false c.if-room-lt-LIMIT.true

pub returns : goal.returns
returns c = room_fine _ _ c.if-number-eq-BAD_AREA.false c.if-room-lt-LIMIT.false
