-- What a leaf writes from the front of an output on: its bytes, or a refusal. Assumes nothing.
use Rattle.std.specs.Prelude.{◌≡◌, List, [], ◌∷◌, ℕ, leb, length}
use Rattle.reading.specs.Refusal.{nr}
use Rattle.reading.specs.Reader.{Fit, got, ◌>>=◌, ◌>>◌, guard}
use Rattle.writing.specs.Order.{Test}
use Rattle.writing.specs.Write.{leaves}

-- 01, writing order: the test t of what is written, 19 last: the bytes b, into an output of `room` bytes
abbrev leaf_of : Test → List ℕ → ℕ → Fit (List ℕ)
leaf_of t b room = do
  guard t.0 t.1
  guard (leb (length b) room) (nr 19 (length b ∷ []))
  got b

-- 01: "A refused write leaves the output as it stood. An accepted one sets the first size bytes, gives that size, and keeps the rest"
pub record LeafWritten (t : Test) (b before after : List ℕ) (told : Fit ℕ) : Type 0 where
  pub answer : told ≡ (leaf_of t b (length before) >>= λ w. got (length w))
  pub output : after ≡ leaves before (leaf_of t b (length before))
