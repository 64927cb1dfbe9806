-- `pieces::judge` is right since it refuses as the header does, then above the limit, then a frame longer than the buffer: 02's order. Assumes nothing.
use mathlib.Core.Path.{ap}
use native.Mathlib.Omega.{arith}
use Rattle.records.specs.AsNumbers.{told_error, row_of}
use Rattle.records.specs.declared.error.Error.{Error}
use Rattle.framing.proofs.Laws.{header_within}
use Rattle.pieces.proofs.Laws.{judge_unknown, judge_malformed, judge_exceeded, judge_long, judge_spans, other_row, header_on}
use Rattle.pieces.proofs.judge.Goals as goal

pub returns-in-InsufficientBytes : goal.returns-in-InsufficientBytes
returns-in-InsufficientBytes c = judge_unknown _ _ _ _ c.in-Err.ensures.0 (ap (λ (e : Error). row_of (told_error e)) c.in-InsufficientBytes.is)

pub returns-in-Err : goal.returns-in-Err
returns-in-Err c = judge_malformed _ _ _ _ c.in-Err.ensures.0 (other_row c.in-Err.e c.in_default.not-InsufficientBytes)

pub overflow_add-f : goal.overflow_add-f
overflow_add-f c = let e = c.in-Ok.ensures in omega (arith, e.1, header_within _ _ _ _ e.0)

pub returns-in_err-limited : goal.returns-in_err-limited
returns-in_err-limited c =
    header_on _ _ c.from_residual.ensures.1 (judge_exceeded _ _ _ _ _ _ c.in-Ok.ensures.0 _ c.in_err-limited.ensures)

pub returns-then-cap-f : goal.returns-then-cap-f
returns-then-cap-f c = judge_long _ _ _ _ _ _ c.in-Ok.ensures.0 _ c.in_ok-limited.ensures c.if-cap-f.true

pub returns : goal.returns
returns c = judge_spans _ _ _ _ _ _ c.in-Ok.ensures.0 _ c.in_ok-limited.ensures c.if-cap-f.false
