-- `pieces::judge_held` is right since a header is in the piece, or in the buffer, or its bytes are put together. Assumes nothing.
use Rattle.records.specs.AsNumbers.{limit_of}
use lib.ListN.{length}
use Rattle.pieces.proofs.Laws.{judge_five}
use Rattle.pieces.proofs.judge_held.Goals as goal

pub returns-then-held-ge5 : goal.returns-then-held-ge5
returns-then-held-ge5 c =
    let a = c.args in
    judge_five (limit_of a.limit) (length a.buffer.now) a.buffer.now a.piece.now a.held c.if-held-ge5.true c.requires.1 c.judge-then-held-ge5.ensures
