-- What the answers of framing tell, in 01's numbers and values. Assumes nothing.
use Rattle.std.proofs.Math.Option.{Option}
use Rattle.std.specs.Prelude.{List, [], ◌∷◌, ℕ, ◌+◌, ◌<◌, leb, length, Result, Ok, Err}
use Rattle.reading.specs.Refusal.{nr, missing, within, over}
use Rattle.reading.specs.Reader.{Fit, got, ◌>>◌, guard, Reader, then_of}
use Rattle.reading.specs.Read.{byte_of, num_of, frame_of}
use Rattle.reading.specs.Place.{part_of}
use Rattle.positions.specs.Position.{from_at}
use Rattle.records.specs.AsNumbers.{told_by}
use Rattle.framing.specs.declared.header.FixedHeader.{FixedHeader}
use Rattle.records.specs.declared.error.Error.{Error}

-- 01, grammar: "A frame is one byte .., a variable length number R": what `frame_of` reads before the limit is looked at
abbrev pub header_of : Reader (ℕ × ℕ)
header_of = then_of (byte_of (nr 1 (2 ∷ []))) (λ _. num_of (nr 1 (1 ∷ [])) 4)

-- the first byte and R, and the index after them
abbrev pub header_in : FixedHeader → (ℕ × ℕ) × ℕ
header_in h = ((h.byte1, h.remaining_len), h.fixed_header_len)

-- 01, rows 1 to 3: the header and the index after it, or the refusal
abbrev pub told_header : Result FixedHeader Error → Fit ((ℕ × ℕ) × ℕ)
told_header = told_by (λ h. header_in h)

-- 02, P2: "Test F instead": a header whose frame has F bytes, under the limit
abbrev pub limited_to : Option ℕ → ℕ → (ℕ × ℕ) × ℕ → Fit ((ℕ × ℕ) × ℕ)
limited_to limit F z = guard (within limit F) (over limit F) >> got z

-- 01, grammar: "Largest: 268,435,455": so R is below 2 ^ 32, and F is a usize
abbrev pub Small : Result FixedHeader Error → Type 0
Small (Ok h) = h.remaining_len < 4294967296
Small (Err e) = Unit {0}

-- 01, row 1: a header with n bytes held behind it
abbrev pub whole_in : ℕ → (ℕ × ℕ) × ℕ → Fit ((ℕ × ℕ) × ℕ)
whole_in n z = guard (leb z.0.1 n) (missing z.0.1 n) >> got z

-- a frame at the start of the stream s
abbrev pub frame_at : Option ℕ → List ℕ → Fit ((ℕ × List ℕ) × ℕ)
frame_at limit s = from_at (frame_of limit (length s)) s 0

-- of the stream s: the first byte and the R bytes of the frame, and the index after them
abbrev pub told_checked : List ℕ → Result FixedHeader Error → Fit ((ℕ × List ℕ) × ℕ)
told_checked s = told_by (λ h. ((h.byte1, part_of s (record { start = h.fixed_header_len; len = h.remaining_len })), h.fixed_header_len + h.remaining_len))
