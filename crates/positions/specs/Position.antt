-- A reader at an index of a slice. Assumes nothing.
use Rattle.std.specs.Prelude.{List, ℕ, ◌-◌, length, drop}
use Rattle.reading.specs.Reader.{Fit, got, bad, Reader, Filler, ◌>>=◌}
use Rattle.reading.specs.Read.{some_fit}
use Rattle.reading.specs.Place.{Span, span_of}

-- p from index `at` of s on: its value, and the index at which the next field starts; the end of s is the end of its room
unfoldable pub from_at : {A : Type 0} → Reader A → List ℕ → ℕ → Fit (A × ℕ)
from_at p s at = do
  (v, r) ← p (drop at s)
  got (v, length s - length r)

-- the index after what was read; `at` if it was refused
abbrev pub next_or : {A : Type 0} → ℕ → Fit (A × ℕ) → ℕ
next_or at (got z) = z.1
next_or at (bad k) = at

-- 01, row 13: one entry or more, to the end, handed back as their place: the last part of `fields_fit` of a kind with entries
abbrev pub placed_run : {A : Type 0} → Reader A → ℕ → Filler Span
placed_run p end l = some_fit p l >>= λ vs. got (span_of l end)
