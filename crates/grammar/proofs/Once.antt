-- 02, P9, "No doubled properties", said without a memory: every single-valued identifier stands once at most. Assumes nothing.
use mathlib.Core.Path.{◌≡◌, refl, sym, ap, ◌∙◌}
use mathlib.Core.Bool.{Bool, true, false, ◌&&◌, cond, false≢true}
use mathlib.Core.List.{List, [], ◌∷◌}
use Prim.Native.Nat.{ℕ, ◌+◌, ◌≤◌}
use native.Mathlib.Omega.{arith}
use borrow.Author.Tests.{eqb-true, eqb-false, eq-eqb, ne_eqb, not-true}
use lib.Dec.{eqb}
use lib.ListN.{length}
use Rattle.grammar.specs.Choice.{is_in}
use Rattle.grammar.specs.Gram.{all_from}
use Rattle.grammar.specs.Tables.{Row, is_list}
use Rattle.grammar.specs.Record.{PropOf, all_of}
use Rattle.grammar.specs.Sentence.{met, fresh, none_twice}

-- 1 if so
abbrev once : Bool → ℕ
once b = cond b 1 0

-- of each single-valued identifier, met before or still to come, there is one at most
abbrev OnceIn : {S : Type 0} → Row → List ℕ → List (PropOf S) → Type 0
OnceIn row σ ps = (i : ℕ) → is_list row i ≡ false → once (is_in i σ) + length (all_of i ps) ≤ 1

-- 02, P9: "A single-valued property met a second time" stands nowhere
abbrev pub OnceEach : {S : Type 0} → Row → List (PropOf S) → Type 0
OnceEach row ps = (i : ℕ) → is_list row i ≡ false → length (all_of i ps) ≤ 1

both_true : (a b : Bool) → (a && b) ≡ true → (a ≡ true) × (b ≡ true)
both_true true b e = (refl, e)
both_true false b e = absurd (false≢true e)

last : (b : Bool) → once b + 0 ≤ 1
last true = omega arith
last false = omega arith

-- what was met is single-valued
abbrev Singles : Row → List ℕ → Type 0
Singles row σ = (i : ℕ) → is_in i σ ≡ true → is_list row i ≡ false

module _ {S : Type 0} (row : Row) where
  -- what is met moves from what is to come to what was met
  moves : (σ : List ℕ) (p : PropOf S) (ps : List (PropOf S)) (i : ℕ) → fresh σ p ≡ true → is_list row i ≡ false
      → once (is_in i (met row σ p)) + length (all_of i ps) ≡ once (is_in i σ) + length (all_of i (p ∷ ps))
  unfolding all_of
  moves σ p ps i f s = go (is_list row p.0) refl (eqb p.0 i) refl
    where
      go : (l : Bool) → is_list row p.0 ≡ l → (e : Bool) → eqb p.0 i ≡ e
          → once (is_in i (met row σ p)) + length (all_of i ps) ≡ once (is_in i σ) + length (all_of i (p ∷ ps))
      go true l true e = absurd (false≢true (sym s ∙ ap (is_list row) (sym (eqb-true _ _ e)) ∙ l))
      go true l false e = rw (l, e)
      go false l true e =
          let out : is_in i σ ≡ false = ap (λ (k : ℕ). is_in k σ) (sym (eqb-true _ _ e)) ∙ not-true _ f in
          let here : eqb i p.0 ≡ true = eq-eqb i p.0 (sym (eqb-true _ _ e)) in
          rw (l, e, here, out) (omega arith)
      go false l false e =
          let here : eqb i p.0 ≡ false = ne_eqb i p.0 (λ q. eqb-false _ _ e (sym q)) in
          rw (l, e, here)

  fits : (σ : List ℕ) (ps : List (PropOf S)) → all_from (met row) fresh σ ps ≡ true → OnceIn row σ ps
  unfolding all_of
  fits σ [] h i s = last (is_in i σ)
  fits σ (p ∷ ps) h i s =
      let (f, r) = both_true (fresh σ p) (all_from (met row) fresh (met row σ p) ps) h in
      omega (arith, moves σ p ps i f s, fits (met row σ p) ps r i s)

  met_singles : (σ : List ℕ) (p : PropOf S) → Singles row σ → Singles row (met row σ p)
  met_singles σ p h = go (is_list row p.0) refl
    where
      go : (l : Bool) → is_list row p.0 ≡ l → Singles row (met row σ p)
      go true l i e = h i (rw l at e)
      go false l i e = step (eqb i p.0) refl
        where
          step : (q : Bool) → eqb i p.0 ≡ q → is_list row i ≡ false
          step true q = ap (is_list row) (eqb-true _ _ q) ∙ l
          step false q = h i (rw (l, q) at e)

  unmet : (σ : List ℕ) (p : PropOf S) (ps : List (PropOf S)) → Singles row σ → OnceIn row σ (p ∷ ps) → fresh σ p ≡ true
  unfolding all_of
  unmet σ p ps h o = go (is_in p.0 σ) refl
    where
      go : (m : Bool) → is_in p.0 σ ≡ m → fresh σ p ≡ true
      go true m = absurd (omega (arith, rw (m, eq-eqb p.0 p.0 refl) at (o p.0 (h p.0 m))))
      go false m = rw m

  fitting : (σ : List ℕ) (ps : List (PropOf S)) → Singles row σ → OnceIn row σ ps → all_from (met row) fresh σ ps ≡ true
  fitting σ [] h o = refl
  fitting σ (p ∷ ps) h o =
      let f : fresh σ p ≡ true = unmet σ p ps h o in
      let r = fitting (met row σ p) ps (met_singles σ p h) (λ i s. omega (arith, moves σ p ps i f s, o i s)) in
      rw (f, r)

  pub none_twice_lem : (ps : List (PropOf S)) → none_twice row ps ≡ true → OnceEach row ps
  none_twice_lem ps h i s = omega (arith, fits [] ps h i s)

  pub once_each : (ps : List (PropOf S)) → OnceEach row ps → none_twice row ps ≡ true
  once_each ps o = fitting [] ps (λ i e. absurd (false≢true e)) (λ i s. omega (arith, o i s))
