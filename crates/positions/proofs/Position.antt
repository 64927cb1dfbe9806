-- A reader at an index of a slice, and the same reader on what is left of the slice there. Assumes nothing.
use mathlib.Core.Path.{◌≡◌, sym, ap, ◌∙◌}
use mathlib.Core.Bool.{Bool, true, false}
use mathlib.Core.List.{List, ◌++◌, append_assoc}
use Prim.Native.Nat.{ℕ, ◌-◌, ◌≤◌}
use native.Mathlib.Omega.{arith}
use lib.ListN.{length, take, drop, length-append, length-drop, take-append-drop}
use lib.Seq.{drop-append_seam}
use Rattle.reading.specs.Refusal.{Refusal}
use Rattle.reading.specs.Reader.{got, bad, Reader, only_by_of}
use Rattle.reading.proofs.Reading.{from_got, from_bind}
use Rattle.reading.proofs.Refusing.{got_bad, of_bind}
use Rattle.positions.specs.Position.{from_at}
use Rattle.positions.proofs.Trails.{Trails}

-- an end of s is what is left at its index
end_at : (s b r : List ℕ) (at : ℕ) → drop at s ≡ b ++ r → drop (length s - length r) s ≡ r
end_at s b r at e =
    let w : s ≡ (take at s ++ b) ++ r = sym (take-append-drop at s) ∙ rw (e, append_assoc (take at s) b r) in
    let n : length s - length r ≡ length (take at s ++ b) = omega (arith, ap length w, length-append (take at s ++ b) r) in
    rw n (ap (drop (length (take at s ++ b))) w ∙ drop-append_seam (take at s ++ b) r)

module _ {A : Type 0} (p : Reader A) (s : List ℕ) (at : ℕ) where
  -- s from index m on is left, after the value v
  abbrev Left : A × ℕ → Type 0
  Left z = (p (drop at s) ≡ got (z.0, drop z.1 s)) × (z.1 ≤ length s)

  left_got : Trails p → (z : A × ℕ) → from_at p s at ≡ got z → Left z
  unfolding from_at
  left_got T = from_bind (p (drop at s)) (λ y. got (y.0, length s - length y.1)) λ y e.
      let (b, e₁) = T (drop at s) y e in
      from_got Left (y.0, length s - length y.1) (e ∙ ap (λ (l : List ℕ). got (y.0, l)) (sym (end_at s b y.1 at e₁)), omega arith)

  -- an answer at an index, as one on what is left there
  pub got_left : Trails p → (v : A) (m : ℕ) → from_at p s at ≡ got (v, m) → p (drop at s) ≡ got (v, drop m s)
  got_left T v m e = (left_got T (v, m) e).0

  pub got_within : Trails p → (v : A) (m : ℕ) → from_at p s at ≡ got (v, m) → m ≤ length s
  got_within T v m e = (left_got T (v, m) e).1

  pub bad_left : (k : Refusal) → from_at p s at ≡ bad k → p (drop at s) ≡ bad k
  unfolding from_at
  bad_left k e = of_bind (p (drop at s)) _ k (λ e'. e') (λ y e' e''. got_bad e'') e

  -- and back
  pub left_at : (v : A) (m : ℕ) → p (drop at s) ≡ got (v, drop m s) → m ≤ length s → from_at p s at ≡ got (v, m)
  unfolding from_at
  left_at v m e h =
      let n : length s - length (drop m s) ≡ m = rw length-drop (omega arith) in
      rw (e, n)

  pub left_bad : (k : Refusal) → p (drop at s) ≡ bad k → from_at p s at ≡ bad k
  unfolding from_at
  left_bad k e = rw e

  -- ---- with a test of the value v and of the count of its bytes, which end at m
  module _ (t : A → ℕ → Bool) (k : A → ℕ → Refusal) where
    pub by_bad : (c : Refusal) → p (drop at s) ≡ bad c → from_at (only_by_of t k p) s at ≡ bad c
    unfolding from_at only_by_of
    by_bad c e = rw e

    module _ (v : A) (m : ℕ) (e : p (drop at s) ≡ got (v, drop m s)) (h : m ≤ length s) where
      counts : length (drop at s) - length (drop m s) ≡ m - at
      counts = rw (length-drop at s, length-drop m s) (omega arith)

      pub by_passes : t v (m - at) ≡ true → from_at (only_by_of t k p) s at ≡ got (v, m)
      unfolding from_at only_by_of
      by_passes w =
          let n : length s - length (drop m s) ≡ m = rw length-drop (omega arith) in
          rw (e, counts, w, n)

      pub by_fails : t v (m - at) ≡ false → from_at (only_by_of t k p) s at ≡ bad (k v (m - at))
      unfolding from_at only_by_of
      by_fails w = rw (e, counts, w)
