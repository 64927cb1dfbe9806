-- `pieces::next_judged` is right since it refuses a bad buffer first, then what has ended. Assumes nothing.
use Rattle.records.specs.AsNumbers.{limit_of}
use lib.ListN.{length}
use mathlib.Core.Path.{sym, ap, ◌∙◌}
use Rattle.pieces_rules.proofs.Calls.{served}
use Rattle.pieces.specs.PieceAnswer.{told_end, told_state, told_step}
use Rattle.pieces.specs.declared.Step.{Step}
use Rattle.pieces.proofs.Laws.{refused_buffer, refused_again, goes_on}
use Rattle.pieces.proofs.next_judged.Goals as goal

pub returns-then-not-buffer_serves : goal.returns-then-not-buffer_serves
returns-then-not-buffer_serves c =
    let a = c.args in
    ap (λ (s : Step). told_step s a.buffer.now) c.refused.ensures
    ∙ refused_buffer (told_state a.state) a.buffer.now a.piece.now (limit_of a.limit) (sym c.buffer_serves.ensures ∙ c.if-not-buffer_serves.true)

pub next_open-requires : goal.next_open-requires
next_open-requires c =
    let a = c.args in
    served a.state.held (length a.buffer.now) (sym c.buffer_serves.ensures ∙ c.if-not-buffer_serves.false)

pub returns-in-None : goal.returns-in-None
returns-in-None c =
    let a = c.args in
    goes_on (told_state a.state) a.buffer.now a.piece.now (limit_of a.limit) (sym c.buffer_serves.ensures ∙ c.if-not-buffer_serves.false) (ap told_end c.in-None.is) c.next_open.ensures

pub returns-in-Some : goal.returns-in-Some
returns-in-Some c =
    let a = c.args in
    ap (λ (s : Step). told_step s a.buffer.now) c.refused-in-Some.ensures
    ∙ refused_again (told_state a.state) a.buffer.now a.piece.now (limit_of a.limit) (sym c.buffer_serves.ensures ∙ c.if-not-buffer_serves.false) _ (ap told_end c.in-Some.is)
