-- `pieces_read::next` is right since the answer to the frame that is found is the answer to the call. Assumes nothing.
use mathlib.Core.Path.{ap, ◌∙◌}
use Rattle.records.specs.AsNumbers.{limit_of}
use Rattle.pieces_rules.specs.Step.{read_step}
use Rattle.pieces_rules.proofs.Calls.{found_read}
use Rattle.pieces.specs.PieceAnswer.{told_state}
use Rattle.pieces_read.proofs.next.Goals as goal

pub returns-clause-answer : goal.returns-clause-answer
returns-clause-answer c =
    let a = c.args in
    let l = limit_of a.limit in
    rw c.answer_in.ensures.answer (ap (read_step l a.piece.now) c.next_frame-step.ensures ∙ found_read l a.piece.now (told_state a.state) a.buffer.now)
