-- `framing::check::check` is right since it refuses as the header does, then above the limit, then where bytes are lacking: 01's order. Assumes nothing.
use native.Mathlib.Omega.{arith}
use Rattle.records.proofs.Laws.{handed_on}
use Rattle.framing.proofs.Laws.{header_within, frame_refused, frame_above, frame_checked}
use Rattle.framing.proofs.check.check.Goals as goal

pub overflow_sub-held : goal.overflow_sub-held
overflow_sub-held c = header_within _ _ _ _ c.in_ok-h.ensures.0

pub overflow_add-size : goal.overflow_add-size
overflow_add-size c = let e = c.in_ok-h.ensures in omega (arith, e.1, header_within _ _ _ _ e.0)

pub returns-in_err-h : goal.returns-in_err-h
returns-in_err-h c = handed_on _ _ _ c.from_residual.ensures.1 (frame_refused _ _ _ c.in_err-h.ensures.0)

pub returns-in_err-limited : goal.returns-in_err-limited
returns-in_err-limited c = handed_on _ _ _ c.from_residual-in_err-limited.ensures.1 (frame_above _ _ _ _ _ c.in_ok-h.ensures.0 _ c.in_err-limited.ensures)

pub returns : goal.returns
returns c = frame_checked _ _ _ _ _ c.in_ok-h.ensures.0 c.whole.result c.in_ok-limited.ensures c.whole.ensures
