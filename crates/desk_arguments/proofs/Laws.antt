-- Bytes compared, and a number read, from index i on. Assumes nothing.
use Rattle.std.specs.Prelude as std
use Rattle.std.specs.Prelude.{Some, None, SomeIff, nat_eq, ◌&&◌, ◌==◌}
use lib.Pointwise.{pointwise}
use mathlib.Core.Path.{◌≡◌, refl, sym, ap, ◌∙◌}
use mathlib.Core.Bool.{Bool, true, false, cond, true≢false}
use mathlib.Core.Option.{Option, some, none}
use mathlib.Core.List.{List, [], ◌∷◌}
use Prim.Native.Nat.{ℕ, suc, ◌+◌, ◌-◌, ◌*◌, ◌^◌, ◌≤◌, ◌<◌}
use native.Mathlib.Omega.{arith}
use native.Mathlib.Numerals.{add-one}
use lib.Dec.{eqb}
use lib.ListN.{length, drop, get_or, drop_of_length-le}
use lib.Seq.{drop-cons}
use borrow.Author.Tests.{lt-ltb, le-ltb, le-leb, lt-leb, eq-eqb, ne_eqb}
use Rattle.desk_arguments.specs.Words.{same, told_number, grow, grown_by, number_of, is_option}

-- ---- the same bytes

tried : (p q : Bool) → (p && q) ≡ cond p q false
tried true q = refl
tried false q = refl

-- what `==` answers
pub same_bytes : (a b : List ℕ) → pointwise nat_eq a b ≡ same a b
unfolding same
same_bytes [] [] = refl
same_bytes [] (y ∷ t) = refl
same_bytes (x ∷ s) [] = refl
same_bytes (x ∷ s) (y ∷ t) = tried (eqb x y) (pointwise nat_eq s t) ∙ ap (λ (q : Bool). cond (eqb x y) q false) (same_bytes s t)

no_matter : (c : Bool) → false ≡ cond c false false
no_matter true = refl
no_matter false = refl

pub same_lengths : (a b : List ℕ) → (length a ≡ length b → ⊥) → false ≡ same a b
unfolding same
same_lengths [] [] h = absurd (h refl)
same_lengths [] (y ∷ t) h = refl
same_lengths (x ∷ s) [] h = refl
same_lengths (x ∷ s) (y ∷ t) h = rw (← same_lengths s t (λ e. h (ap suc e))) (no_matter (eqb x y))

module _ (a b : List ℕ) (i : ℕ) where
  pub same_end : same a b ≡ same (drop i a) (drop i b) → length a ≤ i → length b ≤ i → true ≡ same a b
  unfolding same
  same_end e h g = sym (e ∙ rw (drop_of_length-le a h, drop_of_length-le b g))

  module _ (e : same a b ≡ same (drop i a) (drop i b)) (h : i < length a) (g : i < length b) where
    pub same_next : get_or a i 0 ≡ get_or b i 0 → same a b ≡ same (drop (i + 1) a) (drop (i + 1) b)
    unfolding same
    same_next f = e ∙ rw (drop-cons a i 0 h, drop-cons b i 0 g, eq-eqb (get_or a i 0) (get_or b i 0) f, add-one i)

    pub same_not : (get_or a i 0 ≡ get_or b i 0 → ⊥) → false ≡ same a b
    unfolding same
    same_not f = sym (e ∙ rw (drop-cons a i 0 h, drop-cons b i 0 g, ne_eqb (get_or a i 0) (get_or b i 0) f))

-- ---- a digit

module _ (n b : ℕ) where
  pub grow_low : b < 48 → none ≡ grow (some n) b
  unfolding grow
  grow_low h = rw (lt-leb 48 b h)

  module _ (h : 48 ≤ b) where
    pub grow_high : 57 < b → none ≡ grow (some n) b
    unfolding grow
    grow_high g = rw (le-leb 48 b h, lt-leb b 57 g)

    module _ (g : b ≤ 57) where
      pub grow_past : 2 ^ 64 ≤ n * 10 + (b - 48) → none ≡ grow (some n) b
      unfolding grow
      grow_past f = rw (le-leb 48 b h, le-leb b 57 g, le-ltb (n * 10 + (b - 48)) (2 ^ 64) f)

      pub grow_on : n * 10 + (b - 48) < 2 ^ 64 → some (n * 10 + (b - 48)) ≡ grow (some n) b
      unfolding grow
      grow_on f = rw (le-leb 48 b h, le-leb b 57 g, lt-ltb (n * 10 + (b - 48)) (2 ^ 64) f)

-- what is told of a sum that may be too large
pub grow_told : (n b t : ℕ) (r : std.Option ℕ) → 48 ≤ b → b ≤ 57 → t ≡ n * 10 + (b - 48) → SomeIff r (t < 2 ^ 64) t → told_number r ≡ grow (some n) b
grow_told n b t None h g e f = grow_past n b h g (omega (arith, e, f))
grow_told n b t (Some x) h g e f = ap some (f.1 ∙ e) ∙ grow_on n b h g (omega (arith, e, f.0))

-- ---- a number

grown_none : (s : List ℕ) → grown_by none s ≡ none
unfolding grown_by grow
grown_none [] = refl
grown_none (b ∷ s) = grown_none s

pub number_empty : (s : List ℕ) → length s ≡ 0 → none ≡ number_of s
unfolding number_of
number_empty [] e = refl
number_empty (b ∷ s) e = absurd (omega (arith, e))

pub number_start : (s : List ℕ) → (length s == 0) ≡ false → number_of s ≡ grown_by (some 0) s
unfolding number_of
number_start [] h = absurd (true≢false h)
number_start (b ∷ s) h = refl

module _ (s : List ℕ) (n i : ℕ) (e : number_of s ≡ grown_by (some n) (drop i s)) where
  pub number_end : length s ≤ i → some n ≡ number_of s
  unfolding grown_by
  number_end h = sym (e ∙ rw (drop_of_length-le s h))

  module _ (h : i < length s) where
    step : number_of s ≡ grown_by (grow (some n) (get_or s i 0)) (drop (suc i) s)
    unfolding grown_by
    step = e ∙ rw (drop-cons s i 0 h)

    pub number_next : (m : ℕ) → some m ≡ grow (some n) (get_or s i 0) → number_of s ≡ grown_by (some m) (drop (i + 1) s)
    number_next m f = rw (add-one i) (step ∙ ap (λ (k : Option ℕ). grown_by k (drop (suc i) s)) (sym f))

    pub number_bad : none ≡ grow (some n) (get_or s i 0) → none ≡ number_of s
    number_bad f = sym (step ∙ ap (λ (k : Option ℕ). grown_by k (drop (suc i) s)) (sym f) ∙ grown_none (drop (suc i) s))

-- ---- an option

pub option_short : (w : List ℕ) → length w < 2 → false ≡ is_option w
option_short [] h = refl
option_short (x ∷ []) h = refl
option_short (x ∷ y ∷ w) h = absurd (omega arith)

pub option_first : (w : List ℕ) → 2 ≤ length w → eqb (get_or w 0 0) 45 ≡ is_option w
option_first [] h = absurd (omega arith)
option_first (x ∷ []) h = absurd (omega arith)
option_first (x ∷ y ∷ w) h = refl
