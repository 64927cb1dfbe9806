-- A run of readings at an index of a slice: what a loop has passed, and that what stands at its index decides the rest. Assumes nothing.
use mathlib.Core.Bool.{cond}
use mathlib.Core.Path.{◌≡◌, refl, sym, ap, ◌∙◌}
use mathlib.Core.List.{List, [], ◌∷◌, ◌++◌, append_assoc, append-nil}
use Prim.Native.Nat.{ℕ, zero, suc, ◌≤◌, ◌<◌}
use native.Mathlib.Omega.{arith}
use lib.Dec.{eqb, eqb-zero-suc, eqb-suc-zero, eqb-suc-suc}
use lib.ListN.{length, drop, length-drop, drop_of_length-le}
use Rattle.grammar.specs.Gram.{forget}
use Rattle.reading.specs.Refusal.{Refusal}
use Rattle.reading.specs.Reader.{Fit, got, bad, Reader, ◌>>=◌, many_fit}
use Rattle.reading.specs.Place.{nth_of}
use Rattle.positions.specs.Position.{from_at}
use Rattle.positions.proofs.Walk.{Less, chain_nil, chain_bad, chain_next}
use Rattle.positions.proofs.Trails.{Trails}
use Rattle.positions.proofs.Position.{got_left, got_within, bad_left}

-- vs are read from index `at` on, up to index i
pub record Passed {A : Type 0} (p : Reader A) (s : List ℕ) (at i : ℕ) (vs : List A) : Type 0 where
  pub rest : many_fit p (drop at s) ≡ (many_fit p (drop i s) >>= λ ws. got (vs ++ ws))

module _ {A : Type 0} {p : Reader A} (s : List ℕ) (L : Less (length s) p) where
  many_bad : (l : List ℕ) (k : Refusal) → 0 < length l → p l ≡ bad k → many_fit p l ≡ bad k
  many_bad [] k h e = absurd (omega arith)
  many_bad (x ∷ l) k h e = chain_bad forget (λ _. p) (length s) (λ _. L) tt x l k e

  many_next : (l r : List ℕ) (v : A) → 0 < length l → length l ≤ length s → p l ≡ got (v, r) → many_fit p l ≡ (many_fit p r >>= λ vs. got (v ∷ vs))
  many_next [] r v h b e = absurd (omega arith)
  many_next (x ∷ l) r v h b e = chain_next forget (λ _. p) (length s) (λ _. L) tt x l (v, r) b e

  pub none_passed : (at : ℕ) → Passed p s at at []
  none_passed at = record { rest = sym (go (many_fit p (drop at s))) }
    where
      go : (m : Fit (List A)) → (m >>= λ ws. got ([] ++ ws)) ≡ m
      go (got ws) = refl
      go (bad k) = refl

  -- an item ends after it starts, and within the slice
  pub item_ahead : Trails p → {i m : ℕ} {v : A} → i < length s → from_at p s i ≡ got (v, m) → (i < m) × (m ≤ length s)
  item_ahead T {i = i} {m = m} {v = v} h e =
      let o : m ≤ length s = got_within p s i T v m e in
      let b : length (drop i s) ≤ length s = rw length-drop (omega arith) in
      let l : length (drop m s) < length (drop i s) = L (drop i s) (v, drop m s) b (got_left p s i T v m e) in
      (omega (arith, length-drop m s, length-drop i s), o)

  module _ {at i : ℕ} {vs : List A} (P : Passed p s at i vs) where
    pub passed_end : length s ≤ i → many_fit p (drop at s) ≡ got vs
    passed_end h = P.rest ∙ rw (drop_of_length-le s h, chain_nil forget (λ _. p) (length s) (λ _. L) tt, append-nil vs)

    pub passed_bad : i < length s → (k : Refusal) → from_at p s i ≡ bad k → many_fit p (drop at s) ≡ bad k
    passed_bad h k e = P.rest ∙ rw (many_bad (drop i s) k (rw length-drop (omega arith)) (bad_left p s i k e))

    pub passed_next : Trails p → i < length s → {v : A} {m : ℕ} → from_at p s i ≡ got (v, m) → Passed p s at m (vs ++ (v ∷ []))
    passed_next T h {v = v} {m = m} e = record {
      rest = P.rest ∙ rw (many_next (drop i s) (drop m s) v (rw length-drop (omega arith)) (rw length-drop (omega arith)) (got_left p s i T v m e)) (go (many_fit p (drop m s)));
    }
      where
        go : (n : Fit (List A)) → ((n >>= λ ws. got (v ∷ ws)) >>= λ ws. got (vs ++ ws)) ≡ (n >>= λ ws. got ((vs ++ (v ∷ [])) ++ ws))
        go (got ws) = ap got (sym (append_assoc vs (v ∷ []) ws))
        go (bad k) = refl

-- the n-th of one item more
pub nth_behind : {A : Type 0} (n : ℕ) (vs : List A) (v : A) → nth_of n (vs ++ (v ∷ [])) ≡ cond (eqb (length vs) n) (got v) (nth_of n vs)
nth_behind zero [] v = refl
nth_behind (suc n) [] v = rw (eqb-zero-suc n)
nth_behind zero (a ∷ vs) v = rw (eqb-suc-zero (length vs))
nth_behind (suc n) (a ∷ vs) v = rw (eqb-suc-suc (length vs) n) (nth_behind n vs v)
