-- `pieces::next_frame` is right since a frame that is whole in the piece is what the header says, and the rest is judged. Assumes nothing.
use Rattle.records.specs.AsNumbers.{limit_of}
use Rattle.pieces.specs.PieceAnswer.{told_state}
use Rattle.pieces.proofs.Laws.{found_whole}
use Rattle.pieces.proofs.next_frame.Goals as goal

pub returns-then-f-gt0 : goal.returns-then-f-gt0
returns-then-f-gt0 c =
    let a = c.args in
    found_whole (told_state a.state) a.buffer.now a.piece.now (limit_of a.limit) _ c.if-f-gt0.true c.fresh_length-f.ensures c.start.ensures
