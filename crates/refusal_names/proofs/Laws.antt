-- A row of the table of names is copied byte by byte, and each row is the name of its number. Assumes nothing.
use mathlib.Core.Path.{◌≡◌, sym, ap, ap₂, ◌∙◌}
use mathlib.Core.List.{List, [], ◌∷◌, ◌++◌}
use Prim.Native.Nat.{ℕ, zero, suc, ◌+◌, ◌*◌, ◌≤◌, ◌<◌}
use native.Mathlib.Nat.{not-suc-le-zero}
use native.Mathlib.Numerals.{add-one}
use native.Mathlib.Omega.{arith}
use lib.ListN.{length, get_or, take, drop, set, length-set, length-drop, get_or-eq_default}
use lib.Seq.{take-suc, take-suc-set, take_all, get_or-drop}
use Rattle.refusal_names.specs.Names.{names, name_at, made, padded}
use Rattle.refusal_names.specs.declared.text.Name.{Name}

-- ---- copying

-- the first i of 24 bytes are those of s from `at` on
pub record Copied (s : List ℕ) (at : ℕ) (b : List ℕ) (i : ℕ) : Type 0 where
  pub long : length b ≡ 24
  pub within : i ≤ 24
  pub same : take i b ≡ take i (drop at s)

pub copied_more : {s b : List ℕ} {at i v : ℕ} → Copied s at b i → i < 24 → at + 24 ≤ length s → v ≡ get_or s (at + i) 0 → Copied s at (set b i v) (i + 1)
copied_more {s} {b} {at} {i} {v} p h l e = record {
  long = length-set b i v ∙ p.long;
  within = omega arith;
  same = rw (add-one i)
      (take-suc-set b i v (omega (arith, p.long))
      ∙ ap (λ (c : List ℕ). c ++ (v ∷ [])) p.same
      ∙ ap (λ (x : ℕ). take i (drop at s) ++ (x ∷ [])) (e ∙ sym (get_or-drop at s i 0))
      ∙ sym (take-suc (drop at s) i 0 (omega (arith, length-drop at s))));
}

pub copied_all : {s b : List ℕ} {at i : ℕ} → Copied s at b i → 24 ≤ i → b ≡ take 24 (drop at s)
copied_all {s} {b} {at} {i} p h =
    let e : i ≡ 24 = omega (arith, p.within) in
    sym (take_all 24 b (omega (arith, p.long))) ∙ (rw e at p.same)

-- ---- rows

-- f of the k numbers from a on
abbrev pub up_from : {A : Type 0} → (ℕ → A) → ℕ → ℕ → List A
up_from f zero a = []
up_from f (suc k) a = f a ∷ up_from f k (suc a)

-- what agrees on all of them agrees on each
each_of : {A : Type 0} (f g : ℕ → A) (k a n : ℕ) → up_from f k a ≡ up_from g k a → n < k → f (a + n) ≡ g (a + n)
each_of f g zero a n e h = absurd (not-suc-le-zero h)
each_of f g (suc k) a zero e h = let q : f a ≡ g a = cc in let z : a + 0 ≡ a = omega arith in rw z q
each_of f g (suc k) a (suc n) e h =
    let t : up_from f k (suc a) ≡ up_from g k (suc a) = cc in
    let z : a + suc n ≡ suc a + n = omega arith in
    rw z (each_of f g k (suc a) n t (omega arith))

-- row n of 25 bytes: the length, then the letters
abbrev pub row_in : List ℕ → ℕ → Name
row_in t n = made (take 24 (drop (n * 25 + 1) t)) (get_or t (n * 25) 0)

-- rows that are all right are right at n, for what was copied from row n
pub row_named : (t : List ℕ) {b : List ℕ} {k : ℕ} (n : ℕ) → n < 40 → b ≡ take 24 (drop (n * 25 + 1) t) → k ≡ get_or t (n * 25) 0 → up_from (row_in t) 40 0 ≡ up_from (λ i. padded (name_at i)) 40 0 → made b k ≡ padded (name_at n)
row_named t n h q r e =
    let z : 0 + n ≡ n = omega arith in
    ap₂ made q r ∙ (rw z at (each_of (row_in t) (λ i. padded (name_at i)) 40 0 n e h))

-- no row, no letter
pub unnamed : (n : ℕ) → 40 ≤ n → name_at n ≡ []
unfolding names name_at
unnamed n h = rw (get_or-eq_default ("" ∷ names) "" h)
