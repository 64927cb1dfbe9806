-- A length read at an index of n bytes, and as many bytes behind it: the three ways that it goes. Assumes nothing.
use mathlib.Core.Path.{◌≡◌, refl, sym, ◌∙◌}
use mathlib.Core.Bool.{Bool, true, false}
use mathlib.Core.List.{[], ◌∷◌}
use Prim.Native.Nat.{ℕ, ◌+◌, ◌≤◌, ◌<◌}
use lib.Dec.{leb}
use borrow.Author.Tests.{leb-true, leb-false}
use Rattle.reading.specs.Refusal.{Refusal, nr}
use Rattle.reading.specs.Reader.{Fit, got, bad}
use Rattle.reading.specs.Place.{Span}
use Rattle.reading.proofs.Reading.{from_got, bad_got}

-- f is what was read: the length l and the index m after it
module _ (f : Fit (ℕ × ℕ)) (n : ℕ) where
  pub data Way : Type 0 where
    short : (k : Refusal) → bad k ≡ f → Way
    crosses : (l m : ℕ) → got (l, m) ≡ f → n < m + l → Way
    stands : (l m : ℕ) → got (l, m) ≡ f → m + l ≤ n → Way

  pub way : Way
  way = go f refl
    where
      room : (l m : ℕ) → got (l, m) ≡ f → (b : Bool) → leb (m + l) n ≡ b → Way
      room l m e true h = stands l m e (leb-true (m + l) n h)
      room l m e false h = crosses l m e (leb-false (m + l) n h)

      go : (g : Fit (ℕ × ℕ)) → f ≡ g → Way
      go (bad k) e = short k (sym e)
      go (got (l, m)) e = room l m (sym e) (leb (m + l) n) refl

  -- a place that stands: its length before it, its end within the n bytes; and the index after it
  pub record Stands (z : Span × ℕ) : Type 0 where
    pub size : got (z.0.len, z.0.start) ≡ f
    pub ends : z.1 ≡ z.0.start + z.0.len
    pub within : z.1 ≤ n

  -- what is read so is read where it stands, or not at all
  pub read_stands : (x : Fit (Span × ℕ)) → ((k : Refusal) → bad k ≡ f → bad k ≡ x) → ((l m : ℕ) → got (l, m) ≡ f → n < m + l → bad (nr 8 (l ∷ [])) ≡ x)
      → ((l m : ℕ) → got (l, m) ≡ f → m + l ≤ n → got (record { start = m; len = l }, m + l) ≡ x) → (z : Span × ℕ) → got z ≡ x → Stands z
  read_stands x S C W z e = go way
    where
      go : Way → Stands z
      go (short k w) = absurd (bad_got (S k w ∙ sym e))
      go (crosses l m w o) = absurd (bad_got (C l m w o ∙ sym e))
      go (stands l m w o) = from_got Stands (record { start = m; len = l }, m + l) (record { size = w; ends = refl; within = o }) z (W l m w o ∙ sym e)
