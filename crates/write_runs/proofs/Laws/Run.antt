-- A run of bytes cut by lengths: the i-th string and the rest of the run, for every loop over a run. An index past the end is the
-- end. Assumes nothing.
use mathlib.Core.Path.{◌≡◌, sym, ◌∙◌}
use mathlib.Core.Logic.{◌⊎◌, inl, inr}
use mathlib.Core.List.{List, [], ◌∷◌}
use Prim.Native.Nat.{ℕ, ◌+◌, ◌-◌, ◌≤◌, ◌<◌, min}
use native.Mathlib.Omega.{arith}
use lib.ListN.{length, take, drop, get_or, length-take, length-drop, drop_of_length-le}
use lib.Seq.{take_all, take-nil}
use denote.Ref.{Bor}
use Rattle.writing.specs.Handed.{Run, strings}
use Rattle.writing.proofs.Tests.{le_or}
use Rattle.write_runs.specs.Piece.{PieceAt}
use Rattle.writing.proofs.ForCode.{run_from, string_at, strings_more}

-- 01, "inputs admit one result only": two pieces at one index are the same address and the same bytes
pub piece_at_same : {run r q : Bor (List ℕ)} {at n : ℕ} → PieceAt run at n r → PieceAt run at n q → (r.ref_ptr ≡ q.ref_ptr) × (r.now ≡ q.now)
piece_at_same a b = (pair (a.block ∙ sym b.block) (a.start ∙ sym b.start), a.bytes ∙ sym b.bytes)
  where
    pair : {x y : ℕ × ℕ} → x.0 ≡ y.0 → x.1 ≡ y.1 → x ≡ y
    pair e f = λ i. (e i, f i)

-- ---- indexes

drop_min : (k : ℕ) (l : List ℕ) → drop (min k (length l)) l ≡ drop k l
drop_min k l = go (le_or k (length l))
  where
    go : (k ≤ length l) ⊎ (length l < k) → drop (min k (length l)) l ≡ drop k l
    go (inl h) = let e : min k (length l) ≡ k = omega arith in rw e
    go (inr h) = rw (drop_of_length-le l {i = min k (length l)} (omega arith), drop_of_length-le l {i = k} (omega arith))

module _ (s : List ℕ) (at n : ℕ) where
  pub piece_none : length s ≤ at → [] ≡ take n (drop at s)
  piece_none h = rw (drop_of_length-le s h, take-nil {A = ℕ} n)

  pub piece_some : at < length s → (end : ℕ) → end ≡ min (at + n) (length s) → take (end - at) (drop at s) ≡ take n (drop at s)
  piece_some h end e = go (le_or (at + n) (length s))
    where
      go : (at + n ≤ length s) ⊎ (length s < at + n) → take (end - at) (drop at s) ≡ take n (drop at s)
      go (inl l) = let f : end - at ≡ n = omega arith in rw f
      go (inr l) = rw (take_all (end - at) (drop at s) (omega (arith, length-drop at s)), take_all n (drop at s) (omega (arith, length-drop at s)))

  module _ (h : at ≤ length s) where
    pub piece_ends : (end : ℕ) → end ≡ min (at + n) (length s) → at + length (take n (drop at s)) ≡ end
    piece_ends end e = omega (arith, length-take n (drop at s), length-drop at s)

    pub piece_within : at + length (take n (drop at s)) ≤ length s
    piece_within = omega (arith, length-take n (drop at s), length-drop at s)

-- ---- the i-th string, at index p of the run; the rest of the run is from index q on

module _ (r : Run) (i p q : ℕ) (e : q ≡ min (p + get_or r.lengths i 0) (length r.bytes)) (h : i < length r.lengths) where
  pub strings_cut : strings (run_from r i p) ≡ string_at r i p ∷ strings (run_from r (i + 1) q)
  strings_cut = strings_more r i p h ∙ rw (e, drop_min (p + get_or r.lengths i 0) r.bytes)
