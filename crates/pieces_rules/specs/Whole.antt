-- 02, P10: the whole stream, read frame by frame, with the rule for a frame longer than the buffer. Assumes nothing.
use Rattle.std.specs.Prelude.{Bool, false, cond, List, [], ◌∷◌, ℕ, zero, suc, ◌+◌, ◌-◌, eqb, ltb, length, drop}
use Rattle.std.proofs.Math.Option.{Option}
use Rattle.grammar.specs.Record.{PacketOf}
use Rattle.grammar.specs.Sentence.{Packet}
use Rattle.reading.specs.Refusal.{Refusal, nr, Answer, accepted, refused, refused_as}
use Rattle.reading.specs.Reader.{Fit, got, bad, Reader, then_of}
use Rattle.reading.specs.Read.{byte_of, length_of, Shape, as_bytes, read_as}

-- 02, P10: "FrameTooLong"; docs/DECISIONS.md 29 has its number
abbrev pub frame_too_long : Refusal
frame_too_long = nr 36 []

-- 01, reading order: "1 while the header is incomplete, or 2; then 3": the first byte and R, which has passed the limit test
unfoldable pub header_under : Option ℕ → Reader (ℕ × ℕ)
header_under limit = then_of (byte_of (nr 1 (2 ∷ []))) (λ _. length_of limit)

-- 01: "F is the whole frame": the bytes of the header z that s begins with, and R
abbrev pub frame_bytes : List ℕ → (ℕ × ℕ) × List ℕ → ℕ
frame_bytes s z = length s - length z.1 + z.0.1

-- 02, P10: "A frame longer than the buffer", of cap bytes, "as soon as its header is complete, after the limit test"
unfoldable pub longer : ℕ → List ℕ → Fit ((ℕ × ℕ) × List ℕ) → Bool
longer cap s (got z) = ltb cap (frame_bytes s z)
longer cap s (bad k) = false

-- 02, P10: what s begins with: "FrameTooLong, taken 0", or as in 01
unfoldable pub answer_as : (h : Shape) → Option ℕ → ℕ → List ℕ → Answer (PacketOf h.Str h.Run)
answer_as h limit cap s = cond (longer cap s (header_under limit s)) (refused_as frame_too_long 0) (read_as h limit s)

-- what an answer does to the stream: it lacks bytes; it ends it; or the next frame is n bytes on
pub data Turn (X : Type 0) : Type 0 where
  lacks : Turn X
  ends : Refusal → Turn X
  frame : X → ℕ → Turn X

-- 02, P10: of those that take nothing, 1 waits, "Refusals 2 and 3 of the header, and FrameTooLong, end the stream"
unfoldable pub at_once : {X : Type 0} → ℕ → List ℕ → Turn X
at_once k vs = cond (eqb k 1) lacks (ends (nr k vs))

-- 02, P10: and "A refusal within a frame goes on at the next frame"
unfoldable pub turn_of : {A : Type 0} → Answer A → Turn (Answer A)
turn_of (accepted v n) = frame (accepted v n) n
turn_of (refused k vs zero) = at_once k vs
turn_of (refused k vs (suc n)) = frame (refused k vs (suc n)) (suc n)

-- 02, P10: "a frame unfinished at the end gives none"
abbrev pub listed : Turn (Answer Packet) → (ℕ → List (Answer Packet)) → List (Answer Packet)
listed lacks more = []
listed (ends k) more = refused_as k 0 ∷ []
listed (frame a n) more = a ∷ more n

module _ (limit : Option ℕ) (cap : ℕ) where
  -- the frames of s; the first list bounds their number
  unfoldable pub list_from : List ℕ → List ℕ → List (Answer Packet)
  list_from [] s = []
  list_from (y ∷ f) s = listed (turn_of (answer_as as_bytes limit cap s)) (λ n. list_from f (drop n s))

  -- 02, P10: "the list of records, refusals and taken counts .. of reading the whole stream frame by frame"; it has no more frames than bytes
  unfoldable pub list_of : List ℕ → List (Answer Packet)
  list_of s = list_from s s
