-- Tests, and what they say. Assumes nothing.
use mathlib.Core.Path.{◌≡◌, refl, sym, ◌∙◌}
use mathlib.Core.Bool.{Bool, true, false, not, ◌&&◌, ◌||◌, false≢true}
use mathlib.Core.Logic.{◌↔◌, ◌⊎◌, inl, inr}
use mathlib.Core.List.{List, [], ◌∷◌}
use Prim.Native.Nat.{ℕ, ◌≤◌, ◌<◌}
use lib.Dec.{eqb, leb, eqb_refl, leb→le}
use borrow.Author.Tests.{leb-false, eqb-true, not-true}
use Rattle.grammar.specs.Choice.{is_empty, all}
use Rattle.grammar.specs.Octets.{Each, nil, ◌&◌}
use Rattle.reading.proofs.Lists.{T_true, T_of, nil_of}
use Rattle.writing.proofs.Each.{each_head, each_tail}

pub and_left : (a b : Bool) → (a && b) ≡ true → a ≡ true
and_left true b e = refl
and_left false b e = e

pub and_right : (a b : Bool) → (a && b) ≡ true → b ≡ true
and_right true b e = e
and_right false b e = absurd (false≢true e)

pub and_when : {P Q : Type 0} (a b : Bool) → (a ≡ true) ↔ P → (b ≡ true) ↔ Q → ((a && b) ≡ true) ↔ (P × Q)
and_when a b p q = (λ e. (p.0 (and_left a b e), q.0 (and_right a b e)), λ t. rw (p.1 t.0, q.1 t.1))

pub or_when : {Q : Type 0} (a b : Bool) → (b ≡ true) ↔ Q → ((a || b) ≡ true) ↔ (a ≡ false → Q)
or_when true b q = (λ e n. absurd (false≢true (sym n)), λ _. refl)
or_when false b q = (λ e _. q.0 e, λ f. q.1 (f refl))

pub not_when : (a : Bool) → (not a ≡ true) ↔ (a ≡ false)
not_when a = (not-true a, λ e. rw e)

pub nil_when : {A : Type 0} (l : List A) → (is_empty l ≡ true) ↔ (l ≡ [])
nil_when l = (nil_of l, λ e. rw e)

pub eq_when : (m n : ℕ) → (eqb m n ≡ true) ↔ (m ≡ n)
eq_when m n = (eqb-true m n, λ e. rw e (T_true (eqb n n) (eqb_refl n)))

pub eq_not : (m n : ℕ) → (eqb m n ≡ false) ↔ (m ≡ n → ⊥)
eq_not m n = (λ e q. false≢true (sym e ∙ (eq_when m n).1 q), go (eqb m n) refl)
  where
    go : (t : Bool) → eqb m n ≡ t → (m ≡ n → ⊥) → eqb m n ≡ false
    go true e f = absurd (f (eqb-true m n e))
    go false e f = e

pub all_when : {A : Type 0} {P : A → Type 0} (t : A → Bool) → ((a : A) → (t a ≡ true) ↔ P a) → (l : List A) → (all t l ≡ true) ↔ Each P l
all_when t f [] = (λ _. nil, λ _. refl)
all_when t f (a ∷ l) =
    let w = and_when (t a) (all t l) (f a) (all_when t f l) in
    (λ e. let p = w.0 e in p.0 & p.1, λ p. w.1 (each_head p, each_tail p))

-- ---- what holds exactly when a test does not

-- of a test that fails exactly when P holds
module _ {P : Type 0} (t : Bool) (w : (t ≡ false) ↔ P) where
  pub passes_when : (t ≡ true) ↔ (P → ⊥)
  passes_when = (λ e p. false≢true (sym (w.1 p) ∙ e), go t refl)
    where
      go : (b : Bool) → t ≡ b → (P → ⊥) → t ≡ true
      go true e n = e
      go false e n = absurd (n (w.0 e))

-- of a test that holds exactly when P does
pub fails_when : {P : Type 0} (t : Bool) → (t ≡ true) ↔ P → (P → ⊥) → t ≡ false
fails_when t w n = go t refl
  where
    go : (b : Bool) → t ≡ b → t ≡ false
    go true e = absurd (n (w.0 e))
    go false e = e

-- one or the other
pub decide_by : {P Q : Type 0} (t : Bool) → (t ≡ true → P) → (t ≡ false → Q) → P ⊎ Q
decide_by true p q = inl (p refl)
decide_by false p q = inr (q refl)

pub le_or : (m n : ℕ) → (m ≤ n) ⊎ (n < m)
le_or m n = decide_by (leb m n) (λ e. leb→le m n (T_of (leb m n) e)) (leb-false m n)

-- two tests that say the same
pub same_test : (a b : Bool) → (a ≡ true → b ≡ true) → (b ≡ true → a ≡ true) → a ≡ b
same_test true b f g = sym (f refl)
same_test false true f g = g refl
same_test false false f g = refl
