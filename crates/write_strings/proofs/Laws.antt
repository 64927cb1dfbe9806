-- A string put as its length and its bytes, and what the test of the length says. Assumes nothing.
use mathlib.Core.Path.{◌≡◌, refl, sym, ◌∙◌}
use mathlib.Core.Bool.{Bool, true, false}
use mathlib.Core.List.{List, [], ◌∷◌}
use Prim.Native.Nat.{ℕ, ◌+◌}
use lib.Dec.{leb}
use lib.ListN.{length}
use lib.Seq.{sets}
use Rattle.reading.specs.Refusal.{Refusal, nr}
use Rattle.reading.specs.Reader.{Fit, got, bad}
use Rattle.reading.proofs.Reading.{bad_got}
use Rattle.writing.specs.Spell.{wide, string}
use Rattle.writing.specs.Order.{judge, length_test, raw, field_tests}
use Rattle.write_bytes.proofs.Laws.{sets_append}
use Rattle.write_numbers.specs.Leaf.{LeafWritten}
use Rattle.writing.proofs.Says.{length_wide}
use Rattle.write_numbers.proofs.Laws.Leaf.{leaf_refused}

-- a length, and the bytes behind it
pub put_string : (l l₁ l₂ xs : List ℕ) (at : ℕ) → l₁ ≡ sets l at (wide 2 (length xs)) → l₂ ≡ sets l₁ (at + 2) xs → l₂ ≡ sets l at (string xs)
unfolding string
put_string l l₁ l₂ xs at e f =
    f ∙ rw (e, sets_append (wide 2 (length xs)) xs l at, length_wide 2 (length xs))

-- ---- the length's test

-- a string that is fine passes the test, and one that is refused does not
module _ (xs : List ℕ) where
  pub string_fits : got tt ≡ judge (field_tests (raw xs)) → (length_test xs).0 ≡ true
  unfolding judge
  string_fits e = go (leb (length xs) 65535) refl
    where
      go : (b : Bool) → leb (length xs) 65535 ≡ b → (length_test xs).0 ≡ true
      go true h = h
      go false h =
          let z : got tt ≡ bad (nr 18 (length xs ∷ [])) = rw h at e in
          absurd (bad_got (sym z))

  pub string_refused : (k : Refusal) (before : List ℕ) → bad k ≡ judge (field_tests (raw xs)) → LeafWritten (length_test xs) (string xs) before before (bad k)
  unfolding judge
  string_refused k before e = go (leb (length xs) 65535) refl
    where
      go : (b : Bool) → leb (length xs) 65535 ≡ b → LeafWritten (length_test xs) (string xs) before before (bad k)
      go true h =
          let z : bad k ≡ got tt = rw h at e in
          absurd (bad_got z)
      go false h =
          let z : ◌≡◌ {A = Fit (Unit {0})} (bad k) (bad (nr 18 (length xs ∷ []))) = rw h at e in
          let y : k ≡ nr 18 (length xs ∷ []) = cc in
          rw y (leaf_refused (length_test xs) (string xs) before h)
