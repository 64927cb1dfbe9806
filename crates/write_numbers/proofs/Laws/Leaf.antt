-- The three ways that the write of a leaf goes. Assumes nothing.
use mathlib.Core.Path.{◌≡◌, ◌∙◌}
use mathlib.Core.Bool.{true, false}
use mathlib.Core.List.{List, [], ◌∷◌}
use Prim.Native.Nat.{ℕ, ◌+◌, ◌≤◌, ◌<◌}
use native.Mathlib.Omega.{arith}
use borrow.Author.Tests.{le-leb, lt-leb}
use lib.ListN.{length}
use lib.Seq.{sets, sets-eq}
use Rattle.reading.specs.Refusal.{nr}
use Rattle.reading.specs.Reader.{got, bad}
use Rattle.writing.specs.Order.{Test}
use Rattle.write_numbers.specs.Leaf.{LeafWritten}

module _ (t : Test) (b before : List ℕ) where
  pub leaf_refused : t.0 ≡ false → LeafWritten t b before before (bad t.1)
  leaf_refused e = record { answer = rw e; output = rw e }

  -- the test holds, and n is the number of bytes
  module _ (e : t.0 ≡ true) (n : ℕ) (c : n ≡ length b) where
    pub leaf_no_room : length before < n → LeafWritten t b before before (bad (nr 19 (n ∷ [])))
    leaf_no_room h = let f = lt-leb (length b) (length before) (omega arith) in record { answer = rw (e, f, c); output = rw (e, f) }

    pub leaf_written : (after : List ℕ) → n ≤ length before → after ≡ sets before 0 b → LeafWritten t b before after (got n)
    leaf_written after h w =
        let f = le-leb (length b) (length before) (omega arith) in
        let z : 0 + length b ≡ length b = omega arith in
        record { answer = rw (e, f, c); output = rw (e, f) (w ∙ rw z at (sets-eq b before 0 (omega arith))) }
