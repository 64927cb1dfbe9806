-- A block that is good under a limit is good under a higher one, and its table has free places more.
-- Assumes nothing.
use mathlib.Core.Path.{◌≡◌, refl, sym, ap, ap₂, ◌∙◌}
use mathlib.Core.Bool.{Bool, true, false, not, ◌&&◌}
use mathlib.Core.List.{List, [], ◌∷◌, ◌++◌}
use Prim.Native.Nat.{ℕ, zero, suc, ◌+◌, ◌-◌, ◌<◌, ◌≤◌}
use native.Mathlib.Omega.{arith}
use borrow.Author.Tests.{eqb-true}
use lib.Dec.{eqb}
use lib.ListN.{length, take, drop, replicate}
use Rattle.crc32.specs.Crc.{crc_of}
use Rattle.journal.specs.Block.{each, all_zero, wait_in, number_of, table_in, good, big_endian}

-- ---- tests that are joined

false_true : {A : Type 0} {b : Bool} → b ≡ false → b ≡ true → A
false_true e f = let z : ◌≡◌ {A = ℕ} 0 1 = cc in absurd (omega arith)

pub and_left : (a b : Bool) → a && b ≡ true → a ≡ true
and_left true b e = refl
and_left false b e = e

pub and_right : (a b : Bool) → a && b ≡ true → b ≡ true
and_right true b e = e
and_right false b e = false_true refl e

pub and_both : (a b : Bool) → a ≡ true → b ≡ true → a && b ≡ true
and_both a b e f = rw (e, f)

and-false : (a : Bool) → a && false ≡ false
and-false true = refl
and-false false = refl

-- ---- the limit alone

-- what does not hang on the limit
unfoldable pub sound : List ℕ → Bool
sound b = eqb (crc_of (take 508 b)) (big_endian (drop 508 b)) && all_zero (drop 264 (take 508 b)) && not (eqb (number_of b) 0)

pub good_sound : (l : ℕ) (b : List ℕ) → good l b ≡ true → sound b ≡ true
unfolding good sound
good_sound l b e = and_left _ _ e

above_zero : (l : ℕ) (b : List ℕ) → good l b ≡ true → all_zero (each (wait_in b) l (1024 - l)) ≡ true
unfolding good sound
above_zero l b e = and_right (sound b) (all_zero (each (wait_in b) l (1024 - l))) e

pub number_not_zero : (l : ℕ) (b : List ℕ) → good l b ≡ true → 0 < number_of b
unfolding sound
number_not_zero l b e =
    go (number_of b)
    (and_right (eqb (crc_of (take 508 b)) (big_endian (drop 508 b)) && all_zero (drop 264 (take 508 b))) (not (eqb (number_of b) 0)) (good_sound l b e))
  where
    go : (n : ℕ) → not (eqb n 0) ≡ true → 0 < n
    go zero f = false_true refl f
    go (suc n) f = omega arith

pub zero_not_good : (l : ℕ) (b : List ℕ) → number_of b ≡ 0 → good l b ≡ false
unfolding good
zero_not_good l b e =
    rw (e, and-false (eqb (crc_of (take 508 b)) (big_endian (drop 508 b)) && all_zero (drop 264 (take 508 b))))

-- ---- a run in two

pub each_add : (f : ℕ → ℕ) (i m n : ℕ) → each f i (m + n) ≡ each f i m ++ each f (i + m) n
unfolding each
each_add f i zero n = let e : 0 + n ≡ n = omega arith in let g : i ≡ i + 0 = omega arith in ap₂ (λ (j k : ℕ). each f j k) g e
each_add f i (suc m) n =
    (let e : suc m + n ≡ suc (m + n) = omega arith in ap (each f i) e)
    ∙ ap (λ (s : List ℕ). f i ∷ s) (each_add f (suc i) m n ∙ (let g : suc i + m ≡ i + suc m = omega arith in ap (λ (j : ℕ). each f (suc i) m ++ each f j n) g))

zero_left : (s t : List ℕ) → all_zero (s ++ t) ≡ true → all_zero s ≡ true
unfolding all_zero
zero_left [] t e = refl
zero_left (x ∷ s) t e = and_both _ _ (and_left (eqb x 0) _ e) (zero_left s t (and_right (eqb x 0) _ e))

zero_right : (s t : List ℕ) → all_zero (s ++ t) ≡ true → all_zero t ≡ true
unfolding all_zero
zero_right [] t e = e
zero_right (x ∷ s) t e = zero_right s t (and_right (eqb x 0) _ e)

all_zero_is : (s : List ℕ) → all_zero s ≡ true → s ≡ replicate (length s) 0
unfolding all_zero
all_zero_is [] e = refl
all_zero_is (x ∷ s) e = ap₂ (λ (y : ℕ) (t : List ℕ). y ∷ t) (eqb-true x 0 (and_left (eqb x 0) _ e)) (all_zero_is s (and_right (eqb x 0) _ e))

above_split : (l r : ℕ) (b : List ℕ) → l ≤ r → r ≤ 1024 → each (wait_in b) l (1024 - l) ≡ each (wait_in b) l (r - l) ++ each (wait_in b) r (1024 - r)
above_split l r b h g =
    (let e : 1024 - l ≡ (r - l) + (1024 - r) = omega arith in ap (each (wait_in b) l) e)
    ∙ each_add (wait_in b) l (r - l) (1024 - r)
    ∙ (let e : l + (r - l) ≡ r = omega arith in ap (λ (j : ℕ). each (wait_in b) l (r - l) ++ each (wait_in b) j (1024 - r)) e)

-- ---- raising the limit

pub good_raised : (l r : ℕ) (b : List ℕ) → l ≤ r → r ≤ 1024 → good l b ≡ true → good r b ≡ true
unfolding good sound
good_raised l r b h g e =
    and_both (sound b) (all_zero (each (wait_in b) r (1024 - r))) (good_sound l b e)
    (zero_right (each (wait_in b) l (r - l)) (each (wait_in b) r (1024 - r)) (ap all_zero (sym (above_split l r b h g)) ∙ above_zero l b e))

length_each : (f : ℕ → ℕ) (i n : ℕ) → length (each f i n) ≡ n
unfolding each
length_each f i zero = refl
length_each f i (suc n) = ap suc (length_each f (suc i) n)

pub table_raised : (l r : ℕ) (b : List ℕ) → l ≤ r → r ≤ 1024 → good l b ≡ true → table_in r b ≡ table_in l b ++ replicate (r - l) 0
unfolding table_in
table_raised l r b h g e =
    (let q : r ≡ l + (r - l) = omega arith in ap (each (wait_in b) 0) q)
    ∙ each_add (wait_in b) 0 l (r - l)
    ∙ ap (λ (s : List ℕ). each (wait_in b) 0 l ++ s)
    ((let q : 0 + l ≡ l = omega arith in ap (λ (j : ℕ). each (wait_in b) j (r - l)) q)
    ∙ all_zero_is (each (wait_in b) l (r - l)) (zero_left (each (wait_in b) l (r - l)) (each (wait_in b) r (1024 - r)) (ap all_zero (sym (above_split l r b h g)) ∙ above_zero l b e))
    ∙ ap (λ (n : ℕ). replicate n 0) (length_each (wait_in b) l (r - l)))
