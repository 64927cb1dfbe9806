-- `pieces::fresh_length` is right since it asks whether the state is the first one. Assumes nothing.
use Rattle.records.specs.AsNumbers.{limit_of}
use Rattle.pieces.proofs.Laws.{no_frame_lem, not_ended, is_fresh, from_fresh}
use Rattle.pieces.proofs.fresh_length.Goals as goal

pub returns-then-is_none : goal.returns-then-is_none
returns-then-is_none c =
    let a = c.args in
    from_fresh (limit_of a.limit) a.cap a.piece.now _ (is_fresh c.if-state-eq0.true (not_ended _ c.if-is_none.ensures)) c.whole_length.ensures

pub returns : goal.returns
returns c = no_frame_lem
