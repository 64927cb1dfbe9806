-- `pieces::next_length` is right since a frame lacks bytes, or lies in the piece, or began in the buffer. Assumes nothing.
use Rattle.records.specs.AsNumbers.{limit_of}
use mathlib.Core.Path.{◌∙◌}
use Rattle.pieces_rules.proofs.Calls.{call_lacks, call_frame}
use Rattle.pieces.proofs.Laws.{whole_piece}
use Rattle.pieces.proofs.next_length.Goals as goal

pub returns-then-piece-n : goal.returns-then-piece-n
returns-then-piece-n c =
    let a = c.args in
    call_lacks (limit_of a.limit) a.buffer.now a.piece.now a.held a.f c.requires.3 c.requires.2 (rw c.lacking-n.ensures at c.if-piece-n.true) c.keep.ensures

pub returns-then-held-eq0 : goal.returns-then-held-eq0
returns-then-held-eq0 c =
    let a = c.args in
    whole_piece a.buffer.now a.piece.now a.held (limit_of a.limit) a.f _ c.if-held-eq0.true c.requires.3 c.lacking-n.ensures c.if-piece-n.false c.start.ensures

pub returns : goal.returns
returns c =
    let a = c.args in
    c.complete.ensures ∙ call_frame (limit_of a.limit) a.buffer.now a.piece.now a.held a.f c.requires.3 c.requires.2 (rw c.lacking-n.ensures at c.if-piece-n.false)
