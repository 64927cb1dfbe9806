-- What a header says of its frame. Assumes nothing.
use Rattle.std.specs.Prelude.{cond, List, ℕ, eqb, ltb}
use Rattle.std.proofs.Math.Option.{Option}
use Rattle.reading.specs.Refusal.{Refusal, nr}
use Rattle.reading.specs.Reader.{Fit, got, bad}
use Rattle.pieces_rules.specs.Whole.{frame_too_long, header_under, frame_bytes}

-- the header lacks bytes; its frame ends the stream; or F
pub data Judge : Type 0 where
  unknown : Judge
  forbids : Refusal → Judge
  spans : ℕ → Judge

-- 02, P10: "FrameTooLong, .. as soon as its header is complete, after the limit test"
abbrev pub judged : ℕ → List ℕ → Fit ((ℕ × ℕ) × List ℕ) → Judge
judged cap s (bad (nr k vs)) = cond (eqb k 1) unknown (forbids (nr k vs))
judged cap s (got z) = cond (ltb cap (frame_bytes s z)) (forbids frame_too_long) (spans (frame_bytes s z))

unfoldable pub judge_of : Option ℕ → ℕ → List ℕ → Judge
judge_of limit cap s = judged cap s (header_under limit s)
