-- `desk::stream::with_room` is right since what moves is what is held. Assumes nothing.
use Rattle.records.specs.AsNumbers.{told_span}
use Rattle.desk.proofs.Laws.{kept_none, kept_moved}
use Rattle.desk.proofs.stream.with_room.Goals as goal

pub returns-then-len-eq0 : goal.returns-then-len-eq0
returns-then-len-eq0 c =
    let a = c.args in
    kept_none a.buf.now (told_span a.held) c.if-len-eq0.true

pub returns : goal.returns
returns c =
    let a = c.args in
    kept_moved a.buf.now _ (told_span a.held) c.to_front.ensures
