-- `pieces::next_open` is right since the header decides what becomes of the call. Assumes nothing.
use mathlib.Core.List.{◌++◌}
use mathlib.Core.Path.{ap, ◌∙◌}
use lib.ListN.{length, take}
use Rattle.records.specs.AsNumbers.{limit_of}
use Rattle.pieces_rules.proofs.Says.{spans_within}
use Rattle.pieces_rules.proofs.Calls.{call_unknown, call_ends}
use Rattle.pieces.specs.PieceAnswer.{told_step}
use Rattle.pieces.specs.declared.Step.{Step}
use Rattle.pieces.proofs.Laws.{open_room}
use Rattle.pieces.proofs.next_open.Goals as goal

pub keep-requires : goal.keep-requires
keep-requires c =
    let a = c.args in
    (c.requires.1, open_room a.buffer.now a.piece.now a.held (limit_of a.limit) (rw (c.in-Ok-None.is, c.in-Ok-None.field-0-is) at c.judge_held.ensures) c.requires.2 c.requires.0)

pub returns-in-Ok-None : goal.returns-in-Ok-None
returns-in-Ok-None c =
    let a = c.args in
    call_unknown (limit_of a.limit) a.buffer.now a.piece.now a.held (rw (c.in-Ok-None.is, c.in-Ok-None.field-0-is) at c.judge_held.ensures) c.keep.ensures

pub next_length-requires : goal.next_length-requires
next_length-requires c =
    let a = c.args in
    let e = rw (c.in-Ok-Some.is, c.in-Ok-Some.field-0-is) at c.judge_held.ensures in
    (c.requires.1, spans_within (limit_of a.limit) (length a.buffer.now) (take a.held a.buffer.now ++ a.piece.now) _ e, c.requires.2, e)

pub returns-in-Err : goal.returns-in-Err
returns-in-Err c =
    let a = c.args in
    ap (λ (s : Step). told_step s a.buffer.now) c.refused.ensures
    ∙ call_ends (limit_of a.limit) a.buffer.now a.piece.now a.held _ (rw c.in-Err.is at c.judge_held.ensures)
