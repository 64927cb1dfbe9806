-- Bytes stored one behind the other.
-- Assumes nothing.
use mathlib.Core.Path.{◌≡◌, refl, sym, ap, ◌∙◌}
use mathlib.Core.List.{List, [], ◌∷◌, ◌++◌, append_assoc}
use Prim.Native.Nat.{ℕ, suc, ◌+◌, ◌<◌, ◌≤◌}
use native.Mathlib.Numerals.{add-one}
use native.Mathlib.Omega.{arith}
use lib.ListN.{length, get_or, take, drop, set}
use lib.Seq.{sets, length-sets, sets-eq, drop-drop, take-suc, take_all, length-take-le}

pub sets_more : (d : List ℕ) (at : ℕ) (xs : List ℕ) (v : ℕ) → set (sets d at xs) (at + length xs) v ≡ sets d at (xs ++ (v ∷ []))
sets_more d at [] v = let e : at + 0 ≡ at = omega arith in ap (λ (i : ℕ). set d i v) e
sets_more d at (x ∷ xs) v =
    (let e : at + suc (length xs) ≡ suc at + length xs = omega arith in ap (λ (i : ℕ). set (sets (set d at x) (suc at) xs) i v) e)
    ∙ sets_more (set d at x) (suc at) xs v

-- the first i bytes of s stand in d from at on
pub record Put (d s : List ℕ) (at : ℕ) (out : List ℕ) (i : ℕ) : Type 0 where
  pub within : i ≤ length s
  pub is : out ≡ sets d at (take i s)

pub put_none : (d s : List ℕ) (at : ℕ) → Put d s at d 0
put_none d s at = record { within = omega arith; is = refl }

pub put_long : {d s out : List ℕ} {at i : ℕ} → Put d s at out i → length out ≡ length d
put_long {d} {s} {out} {at} {i} p = ap length p.is ∙ length-sets d at (take i s)

pub put_more : {d s out : List ℕ} {at i : ℕ} → Put d s at out i → i < length s → Put d s at (set out (at + i) (get_or s i 0)) (i + 1)
put_more {d} {s} {out} {at} {i} p h = record {
  within = omega arith;
  is = ap (λ (o : List ℕ). set o (at + i) (get_or s i 0)) p.is
      ∙ ap (λ (j : ℕ). set (sets d at (take i s)) (at + j) (get_or s i 0)) (sym (length-take-le i s (omega arith)))
      ∙ sets_more d at (take i s) (get_or s i 0)
      ∙ (let e : take i s ++ (get_or s i 0 ∷ []) ≡ take (i + 1) s = rw add-one (sym (take-suc s i 0 h)) in ap (sets d at) e);
}

pub put_all : {d s out : List ℕ} {at i : ℕ} → Put d s at out i → length s ≤ i → out ≡ sets d at s
put_all {d} {s} {out} {at} {i} p h = p.is ∙ ap (sets d at) (take_all i s h)

-- a part that is put back
pub part_set : (out : List ℕ) {xs ys : List ℕ} (at k : ℕ) → xs ≡ ys → length ys ≡ k → at + k ≤ length out → take at out ++ (xs ++ drop k (drop at out)) ≡ sets out at ys
part_set out {xs} {ys} at k e l h =
    ap (λ (s : List ℕ). take at out ++ (s ++ drop k (drop at out))) e
    ∙ sym (append_assoc (take at out) ys (drop k (drop at out)))
    ∙ ap (λ (s : List ℕ). (take at out ++ ys) ++ s) (drop-drop k at out ∙ ap (λ (n : ℕ). drop (at + n) out) (sym l))
    ∙ sym (sets-eq ys out at (omega (arith, l)))
