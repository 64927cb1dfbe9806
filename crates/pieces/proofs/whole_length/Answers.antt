-- `pieces::whole_length` is right since the header decides F, and what F must pass is asked for. Assumes nothing.
use native.Mathlib.Omega.{arith}
use Rattle.records.specs.AsNumbers.{limit_of}
use Rattle.framing.proofs.Laws.{header_within}
use Rattle.pieces.proofs.Laws.{whole_in_lem}
use Rattle.pieces.proofs.whole_length.Goals as goal

pub overflow_add-h : goal.overflow_add-h
overflow_add-h c = let e = c.in-Ok.ensures in omega (arith, e.1, header_within _ _ _ _ e.0)

pub returns-in-Ok : goal.returns-in-Ok
returns-in-Ok c =
    let a = c.args in
    whole_in_lem (limit_of a.limit) a.cap a.piece.now _ _ _ c.in-Ok.ensures.0 _ c.if_whole.ensures
