-- What is held of the stream when it moves to the front of the buffer. Assumes nothing.
use Rattle.std.specs.Prelude.{◌≡◌, ℕ, ◌+◌, ◌≤◌, List, ◌++◌, length, take, drop}
use Rattle.reading.specs.Place.{Span, held_of}

-- the bytes from `start` on, n of them, at the front; what stands behind them there as it was
unfoldable pub fronted : List ℕ → ℕ → ℕ → List ℕ
fronted s start n = take n (drop start s) ++ drop n s

-- what was held at a place within the buffer is held at the new place
abbrev pub Kept : List ℕ → Span → List ℕ → Span → Type 0
Kept before p after q = p.start + p.len ≤ length before → held_of after q ≡ held_of before p
