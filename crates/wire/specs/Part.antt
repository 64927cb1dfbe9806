-- Which part of a slice is handed back: its bytes, and where it lies. 01, 'The form to use in each place': "functions return the part of the
-- lent stream that is topic or payload, with contract on which part". Assumes nothing.
use Rattle.std.specs.Prelude.{◌≡◌, cond, List, ℕ, ◌+◌}
use Rattle.std.specs.Borrow.{Bor}
use Rattle.std.proofs.Math.Option.{Option, none, some}
use Rattle.grammar.specs.Record.{Val, num, str, duo}
use Rattle.reading.specs.Place.{Span, lies_in, held_of}

-- demand 1, of any place: the index where the part begins; the empty part at 0 if the place does not lie within
unfoldable pub start_of : List ℕ → Span → ℕ
start_of s p = cond (lies_in s p) p.start 0

-- r is the part of s at the place p, in the memory of s itself
pub record PartAt (s : Bor (List ℕ)) (p : Span) (r : Bor (List ℕ)) : Type 0 where
  pub bytes : r.now ≡ held_of s.now p
  -- the same block of memory ..
  pub block : r.ref_ptr.0 ≡ s.ref_ptr.0
  -- .. so many bytes behind where s begins
  pub start : r.ref_ptr.1 ≡ s.ref_ptr.1 + start_of s.now p

-- the place of a string that may be absent; the empty place at 0 if it is
abbrev pub place_if : Option (Val Span) → Span
place_if none = record { start = 0; len = 0 }
place_if (some (num n)) = record { start = 0; len = 0 }
place_if (some (str p)) = p
place_if (some (duo p q)) = record { start = 0; len = 0 }
