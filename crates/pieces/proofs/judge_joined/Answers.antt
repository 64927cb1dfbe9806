-- `pieces::judge_joined` is right since the first five bytes of what is held and the piece, put together, decide the header. Assumes nothing.
use mathlib.Core.List.{[], ◌∷◌}
use lib.ListN.{length}
use mathlib.Core.Path.{refl}
use Rattle.records.specs.AsNumbers.{limit_of}
use Rattle.pieces.proofs.Laws.{judge_joined}
use Rattle.pieces.proofs.judge_joined.Goals as goal

pub returns : goal.returns
returns c =
    let a = c.args in
    judge_joined (limit_of a.limit) (length a.buffer.now) a.held c.head_length-n.result a.buffer.now a.piece.now (0 ∷ 0 ∷ 0 ∷ 0 ∷ 0 ∷ []) refl c.put_bytes.ensures c.put_bytes-2.ensures c.requires.1 c.requires.0 c.head_length-n.ensures c.judge.ensures
