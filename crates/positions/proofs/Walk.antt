-- How a chain of readings goes on, with no bound on its steps in sight: what a loop over a block or over filters goes by.
-- Assumes nothing.
use mathlib.Core.Path.{◌≡◌, refl}
use mathlib.Core.List.{List, [], ◌∷◌}
use Prim.Native.Nat.{ℕ, ◌≤◌, ◌<◌}
use native.Mathlib.Omega.{arith}
use lib.ListN.{length}
use Rattle.reading.specs.Refusal.{Refusal}
use Rattle.reading.specs.Reader.{Fit, got, bad, Reader, ◌>>=◌, run_fit, chain_fit, fold_from, fold_fit}

-- of a list that is no longer than `bound`, what is left is less
abbrev pub Less : {A : Type 0} → ℕ → Reader A → Type 0
Less {A = A} bound p = (s : List ℕ) (z : A × List ℕ) → length s ≤ bound → p s ≡ got z → length z.1 < length s

module _ {S A : Type 0} (step : S → A → S) (p : S → Reader A) (bound : ℕ) (L : (σ : S) → Less bound (p σ)) where
  -- the bound on the steps does not matter
  fuel : (σ : S) (f f' s : List ℕ) → length s ≤ bound → length s ≤ length f → length s ≤ length f' → run_fit step p σ f s ≡ run_fit step p σ f' s
  unfolding run_fit
  fuel σ [] [] [] b h h' = refl
  fuel σ [] (y ∷ f') [] b h h' = refl
  fuel σ [] [] (x ∷ s) b h h' = refl
  fuel σ [] (y ∷ f') (x ∷ s) b h h' = absurd (omega arith)
  fuel σ (y ∷ f) [] [] b h h' = refl
  fuel σ (y ∷ f) (y' ∷ f') [] b h h' = refl
  fuel σ (y ∷ f) [] (x ∷ s) b h h' = absurd (omega arith)
  fuel σ (y ∷ f) (y' ∷ f') (x ∷ s) b h h' = go (p σ (x ∷ s)) refl (λ σ' r d a c. fuel σ' f f' r d a c)
    where
      go : (m : Fit (A × List ℕ)) → p σ (x ∷ s) ≡ m
          → ((σ' : S) (r : List ℕ) → length r ≤ bound → length r ≤ length f → length r ≤ length f' → run_fit step p σ' f r ≡ run_fit step p σ' f' r)
          → (m >>= λ z. run_fit step p (step σ z.0) f z.1 >>= λ vs. got (z.0 ∷ vs)) ≡ (m >>= λ z. run_fit step p (step σ z.0) f' z.1 >>= λ vs. got (z.0 ∷ vs))
      go (bad k) e ih = refl
      go (got z) e ih =
          let l : length z.1 < length (x ∷ s) = L σ (x ∷ s) z b e in
          rw (ih (step σ z.0) z.1 (omega arith) (omega arith) (omega arith))

  pub chain_nil : (σ : S) → chain_fit step p σ [] ≡ got []
  unfolding chain_fit run_fit
  chain_nil σ = refl

  pub chain_bad : (σ : S) (x : ℕ) (s : List ℕ) (k : Refusal) → p σ (x ∷ s) ≡ bad k → chain_fit step p σ (x ∷ s) ≡ bad k
  unfolding chain_fit run_fit
  chain_bad σ x s k e = rw e

  pub chain_next : (σ : S) (x : ℕ) (s : List ℕ) (z : A × List ℕ) → length (x ∷ s) ≤ bound → p σ (x ∷ s) ≡ got z
      → chain_fit step p σ (x ∷ s) ≡ (chain_fit step p (step σ z.0) z.1 >>= λ vs. got (z.0 ∷ vs))
  unfolding chain_fit run_fit
  chain_next σ x s z b e =
      let l : length z.1 < length (x ∷ s) = L σ (x ∷ s) z b e in
      rw (e, fuel (step σ z.0) s z.1 z.1 (omega arith) (omega arith) (omega arith))

  module _ {B : Type 0} (add : B → A → B) where
    pub fold_nil : (o : B) (σ : S) → fold_fit step p add o σ [] ≡ got o
    unfolding fold_fit
    fold_nil o σ = rw (chain_nil σ)

    pub fold_bad : (o : B) (σ : S) (x : ℕ) (s : List ℕ) (k : Refusal) → p σ (x ∷ s) ≡ bad k → fold_fit step p add o σ (x ∷ s) ≡ bad k
    unfolding fold_fit
    fold_bad o σ x s k e = rw (chain_bad σ x s k e)

    pub fold_next : (o : B) (σ : S) (x : ℕ) (s : List ℕ) (z : A × List ℕ) → length (x ∷ s) ≤ bound → p σ (x ∷ s) ≡ got z
        → fold_fit step p add o σ (x ∷ s) ≡ fold_fit step p add (add o z.0) (step σ z.0) z.1
    unfolding fold_fit
    fold_next o σ x s z b e = rw (chain_next σ x s z b e) (after (chain_fit step p (step σ z.0) z.1))
      where
        after : (m : Fit (List A)) → ((m >>= λ vs. got (z.0 ∷ vs)) >>= λ vs. got (fold_from add o vs)) ≡ (m >>= λ vs. got (fold_from add (add o z.0) vs))
        after (got vs) = refl
        after (bad k) = refl
