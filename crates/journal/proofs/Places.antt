-- The blocks of an area in which one block is stored, and where the next number goes.
-- Assumes nothing.
use mathlib.Core.Path.{◌≡◌, refl, ap, ap₂, ◌∙◌}
use mathlib.Core.List.{List, [], ◌∷◌, ◌++◌}
use Prim.Native.Nat.{ℕ, zero, suc, ◌+◌, ◌*◌, ◌/◌, ◌%◌, ◌<◌, ◌≤◌}
use mathlib.Core.Logic.{◌⊎◌, inl, inr}
use native.Mathlib.Nat.{not-suc-le-zero, mod-lt, div-add-mod', add-mul, eq-or-lt_of_le}
use native.Mathlib.Omega.{arith}
use lib.Arith.{digits_mod}
use lib.ListN.{length, get_or, take, drop, set, length-drop}
use lib.Seq.{sets, sets-eq, drop-drop, length-sets, take-set-le, drop-set-add, take_at, drop_at}
use Rattle.journal.specs.Area.{blocks, count_of}

-- ---- stores past the first n elements

take_sets : (n : ℕ) (l : List ℕ) (i : ℕ) (vs : List ℕ) → n ≤ i → take n (sets l i vs) ≡ take n l
take_sets n l i [] h = refl
take_sets n l i (v ∷ vs) h = take_sets n (set l i v) (suc i) vs (omega arith) ∙ take-set-le n l i v h

drop_sets : (n : ℕ) (l : List ℕ) (i : ℕ) (vs : List ℕ) → drop n (sets l (n + i) vs) ≡ sets (drop n l) i vs
drop_sets n l i [] = refl
drop_sets n l i (v ∷ vs) =
    (let e : suc (n + i) ≡ n + suc i = omega arith in ap (λ (k : ℕ). drop n (sets (set l (n + i) v) k vs)) e)
    ∙ drop_sets n (set l (n + i) v) (suc i) vs ∙ ap (λ (x : List ℕ). sets x (suc i) vs) (drop-set-add n l i v)

-- ---- the blocks of an area

pub length_blocks : (k : ℕ) (a : List ℕ) → length (blocks k a) ≡ k
unfolding blocks
length_blocks zero a = refl
length_blocks (suc k) a = ap suc (length_blocks k (drop 512 a))

-- block i
pub block_of_blocks : (k : ℕ) (a : List ℕ) (i : ℕ) → i < k → get_or (blocks k a) i [] ≡ take 512 (drop (i * 512) a)
unfolding blocks
block_of_blocks zero a i h = absurd (not-suc-le-zero h)
block_of_blocks (suc k) a zero h = refl
block_of_blocks (suc k) a (suc i) h =
    block_of_blocks k (drop 512 a) i (omega arith)
    ∙ ap (take 512) (drop-drop (i * 512) 512 a ∙ (let e : 512 + i * 512 ≡ suc i * 512 = omega arith in ap (λ (n : ℕ). drop n a) e))

front : (a b : List ℕ) → length b ≡ 512 → 512 ≤ length a → sets a 0 b ≡ b ++ drop 512 a
front a b e h = sets-eq b a 0 (omega (arith, e)) ∙ (let f : 0 + length b ≡ 512 = omega (arith, e) in ap (λ (k : ℕ). b ++ drop k a) f)

pub blocks_set : (k : ℕ) (a : List ℕ) (p : ℕ) (b : List ℕ) → length b ≡ 512 → p < k → length a ≡ k * 512
    → blocks k (sets a (512 * p) b) ≡ set (blocks k a) p b
unfolding blocks
blocks_set zero a p b e h f = absurd (not-suc-le-zero h)
blocks_set (suc k) a zero b e h f =
    ap₂ (λ (x y : List ℕ). x ∷ blocks k y)
    (ap (take 512) s ∙ take_at b (drop 512 a) 512 e)
    (ap (drop 512) s ∙ drop_at b (drop 512 a) 512 e)
  where
    s : sets a (512 * 0) b ≡ b ++ drop 512 a
    s = front a b e (omega (arith, f))
blocks_set (suc k) a (suc p) b e h f =
    ap₂ (λ (x : List ℕ) (y : List (List ℕ)). x ∷ y)
    (ap (λ (i : ℕ). take 512 (sets a i b)) q ∙ take_sets 512 a (512 + 512 * p) b (omega arith))
    (ap (λ (i : ℕ). blocks k (drop 512 (sets a i b))) q ∙ ap (blocks k) (drop_sets 512 a (512 * p) b)
    ∙ blocks_set k (drop 512 a) p b e (omega arith) (length-drop 512 a ∙ omega (arith, f)))
  where
    q : 512 * suc p ≡ 512 + 512 * p
    q = omega arith

pub count_is : (k : ℕ) (a : List ℕ) → length a ≡ k * 512 → count_of a ≡ k
count_is k a e = ap (λ (n : ℕ). n / 512) e ∙ (let f : k * 512 / 512 ≡ k = omega arith in f)

pub length_stored : (a : List ℕ) (i : ℕ) (b : List ℕ) → length (sets a i b) ≡ length a
length_stored a i b = length-sets a i b

-- an element that is set, and the others
pub get_set : (bs : List (List ℕ)) (p : ℕ) (b : List ℕ) → p < length bs → get_or (set bs p b) p [] ≡ b
get_set [] p b h = absurd (not-suc-le-zero h)
get_set (x ∷ bs) zero b h = refl
get_set (x ∷ bs) (suc p) b h = get_set bs p b (omega arith)

-- ---- the next number goes to another block

next_mod : (k q : ℕ) → 2 ≤ k → (q % k + 1 ≡ k) ⊎ (q % k + 1 < k) → (q + 1) % k ≡ q % k → ⊥
next_mod k q h (inl f) e =
    let w : q / k * k + q % k ≡ q = div-add-mod' q k in
    let d : (q / k + 1) * k ≡ q / k * k + 1 * k = add-mul (q / k) 1 k in
    let g : q + 1 ≡ (q / k + 1) * k + 0 = omega (arith, w, d, f) in
    let z : (q + 1) % k ≡ 0 = ap (λ (n : ℕ). n % k) g ∙ digits_mod (q / k + 1) {m = k} {r = 0} (omega arith) in
    omega (arith, z, e, f)
next_mod k q h (inr l) e =
    let w : q / k * k + q % k ≡ q = div-add-mod' q k in
    let g : q + 1 ≡ q / k * k + (q % k + 1) = omega (arith, w) in
    let z : (q + 1) % k ≡ q % k + 1 = ap (λ (n : ℕ). n % k) g ∙ digits_mod (q / k) {m = k} {r = q % k + 1} l in
    omega (arith, z, e)

pub next_apart : (k q : ℕ) → 2 ≤ k → (q + 1) % k ≡ q % k → ⊥
next_apart k q h e =
    let m : q % k < k = mod-lt q (omega arith) in
    next_mod k q h (eq-or-lt_of_le (omega (arith, m))) e
