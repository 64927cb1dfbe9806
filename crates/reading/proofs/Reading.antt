-- When a reader reads a grammar: it accepts just what begins with a spelling, and gives its value and what comes after.
-- Each reader of `specs/Reader.antt` reads its grammar. Assumes nothing.
use mathlib.Core.Path.{◌≡◌, refl, sym, ap, ◌∙◌, subst}
use mathlib.Core.Bool.{Bool, true, false, ◌&&◌, false≢true}
use mathlib.Core.Logic.{◌↔◌}
use mathlib.Core.List.{List, [], ◌∷◌, ◌++◌, append_assoc, append-nil}
use Prim.Native.Nat.{ℕ, ◌-◌, ◌≤◌, ◌<◌}
use native.Mathlib.Omega.{arith}
use lib.ListN.{length, take, drop, length-append, take-append-drop}
use lib.Seq.{take-append_seam, drop-append_seam, length-take-le}
use lib.Dec.{leb, leb→le}
use borrow.Author.Tests.{le-leb}
use Rattle.grammar.specs.Choice.{is_empty}
use Rattle.grammar.specs.Gram.{Gram, Nothing, nothing, Map, mapped, Only, only, OnlyBy, only_by, Then, both, Sized, sized, Chain, done, more, forget, Many, all_from, Is, is, Never, Solid}
use Rattle.reading.specs.Refusal.{Refusal}
use Rattle.reading.specs.Reader.{Fit, got, bad, Reader, Filler, ◌>>=◌, ◌>>◌, guard, none_of, never_of, map_of, only_of, only_by_of, head_of, then_of, sized_of, is_fit, map_fit, hand_fit, only_fit, then_fit, exact_fit, run_fit, chain_fit, many_fit}
use Rattle.reading.proofs.Lists.{T_of, nil_of, left_nil}

-- ---- taking an accepted answer apart

pub bad_got : {A : Type 0} {k : Refusal} {a : A} → bad k ≡ got a → ⊥
bad_got e = let z : ◌≡◌ {A = ℕ} 0 1 = cc in omega arith

pub got_inj : {A : Type 0} {a b : A} → got a ≡ got b → a ≡ b
got_inj e = cc

-- what holds of every value that the last step gives holds of the value given
pub from_got : {A : Type 0} (C : A → Type 0) (a : A) → C a → (z : A) → got a ≡ got z → C z
from_got C a c z e = subst C (got_inj e) c

pub from_bind : {A B : Type 0} {C : B → Type 0} (m : Fit A) (f : A → Fit B)
    → ((a : A) → m ≡ got a → (z : B) → f a ≡ got z → C z) → (z : B) → (m >>= f) ≡ got z → C z
from_bind (got a) f k z e = k a refl z e
from_bind (bad x) f k z e = absurd (bad_got e)

pub from_guard : {B : Type 0} {C : B → Type 0} (t : Bool) (k : Refusal) (m : Fit B)
    → (t ≡ true → (z : B) → m ≡ got z → C z) → (z : B) → (guard t k >> m) ≡ got z → C z
from_guard true x m k z e = k refl z e
from_guard false x m k z e = absurd (bad_got e)

-- ---- what a reader of a grammar, or of one that fills what it is given, has to do

-- s begins with a spelling of the value z.0, and z.1 comes after
abbrev pub Cut : {A : Type 0} → Gram A → List ℕ → A × List ℕ → Type 0
Cut G s z = (b : List ℕ) × (s ≡ b ++ z.1) × G z.0 b

pub record Reads {A : Type 0} (p : Reader A) (G : Gram A) : Type 0 where
  pub whole : (a : A) (b r : List ℕ) → G a b → p (b ++ r) ≡ got (a, r)
  pub split : (s : List ℕ) (z : A × List ℕ) → p s ≡ got z → Cut G s z

pub record Fills {A : Type 0} (q : List ℕ → Fit A) (G : Gram A) : Type 0 where
  pub whole : (a : A) (b : List ℕ) → G a b → q b ≡ got a
  pub back : (b : List ℕ) (a : A) → q b ≡ got a → G a b

-- ---- each reads its grammar

module _ {A : Type 0} (a : A) where
  none_whole : (v : A) (b r : List ℕ) → Nothing a v b → none_of a (b ++ r) ≡ got (v, r)
  unfolding none_of
  none_whole _ _ r nothing = refl

  none_split : (s : List ℕ) (z : A × List ℕ) → none_of a s ≡ got z → Cut (Nothing a) s z
  unfolding none_of
  none_split s = from_got (Cut (Nothing a) s) (a, s) ([], refl, nothing)

  pub reads_none : Reads (none_of a) (Nothing a)
  reads_none = record { whole = none_whole; split = none_split }

module _ {A B : Type 0} {p : Reader A} {G : Gram A} (f : A → B) (R : Reads p G) where
  map_whole : (a : B) (b r : List ℕ) → Map f G a b → map_of f p (b ++ r) ≡ got (a, r)
  unfolding map_of
  map_whole _ b r (mapped {a = a} g) = rw (R.whole a b r g)

  map_split : (s : List ℕ) (z : B × List ℕ) → map_of f p s ≡ got z → Cut (Map f G) s z
  unfolding map_of
  map_split s = from_bind (p s) (λ y. got (f y.0, y.1)) λ y e.
      let (b, e₁, g) = R.split s y e in
      from_got (Cut (Map f G) s) (f y.0, y.1) (b, e₁, mapped g)

  pub reads_map : Reads (map_of f p) (Map f G)
  reads_map = record { whole = map_whole; split = map_split }

module _ {A : Type 0} {p : Reader A} {G : Gram A} (t : A → Bool) (k : A → Refusal) (R : Reads p G) where
  only_whole : (a : A) (b r : List ℕ) → Only t G a b → only_of t k p (b ++ r) ≡ got (a, r)
  unfolding only_of
  only_whole a b r (only h g) = rw (R.whole a b r g, h)

  only_split : (s : List ℕ) (z : A × List ℕ) → only_of t k p s ≡ got z → Cut (Only t G) s z
  unfolding only_of
  only_split s = from_bind (p s) (λ y. guard (t y.0) (k y.0) >> got (y.0, y.1)) λ y e.
      from_guard (t y.0) (k y.0) (got (y.0, y.1)) λ h.
      let (b, e₁, g) = R.split s y e in
      from_got (Cut (Only t G) s) (y.0, y.1) (b, e₁, only h g)

  pub reads_only : Reads (only_of t k p) (Only t G)
  reads_only = record { whole = only_whole; split = only_split }

-- what is left of b before r, when r is left, counts b
pub count_front : (s b r : List ℕ) → s ≡ b ++ r → length s - length r ≡ length b
count_front s b r e = omega (arith, ap length e, length-append b r)

module _ {A : Type 0} {p : Reader A} {G : Gram A} (t : A → ℕ → Bool) (k : A → ℕ → Refusal) (R : Reads p G) where
  by_whole : (a : A) (b r : List ℕ) → OnlyBy t G a b → only_by_of t k p (b ++ r) ≡ got (a, r)
  unfolding only_by_of
  by_whole a b r (only_by h g) = rw (R.whole a b r g, count_front (b ++ r) b r refl, h)

  by_split : (s : List ℕ) (z : A × List ℕ) → only_by_of t k p s ≡ got z → Cut (OnlyBy t G) s z
  unfolding only_by_of
  by_split s = from_bind (p s) (λ y. guard (t y.0 (length s - length y.1)) (k y.0 (length s - length y.1)) >> got (y.0, y.1)) λ y e.
      from_guard (t y.0 (length s - length y.1)) (k y.0 (length s - length y.1)) (got (y.0, y.1)) λ h.
      let (b, e₁, g) = R.split s y e in
      from_got (Cut (OnlyBy t G) s) (y.0, y.1) (b, e₁, only_by (rw (count_front s b y.1 e₁) at h) g)

  pub reads_by : Reads (only_by_of t k p) (OnlyBy t G)
  reads_by = record { whole = by_whole; split = by_split }

-- every spelling begins with a byte that passes the test t just when the value passes t'
abbrev pub Heads : {A : Type 0} → (ℕ → Bool) → (A → Bool) → Gram A → Type 0
Heads {A = A} t t' G = (a : A) (b : List ℕ) → G a b → (i : ℕ) × (c : List ℕ) × (b ≡ i ∷ c) × (t i ≡ t' a)

module _ {A : Type 0} {p : Reader A} {G : Gram A} (t : ℕ → Bool) (t' : A → Bool) (k : ℕ → Refusal) (H : Heads t t' G) (R : Reads p G) where
  head_whole : (a : A) (b r : List ℕ) → Only t' G a b → head_of t k p (b ++ r) ≡ got (a, r)
  unfolding head_of
  head_whole a b r (only h g) = let (i, c, e, j) = H a b g in rw (e, j, h) (rw e at (R.whole a b r g))

  head_split : (s : List ℕ) (z : A × List ℕ) → head_of t k p s ≡ got z → Cut (Only t' G) s z
  unfolding head_of
  head_split [] = λ z e.
      let (b, e₁, g) = R.split [] z e in
      let (i, c, e₂, j) = H z.0 b g in
      absurd (omega (arith, ap length e₁, length-append b z.1, ap length e₂))
  head_split (i ∷ s) = from_guard (t i) (k i) (p (i ∷ s)) λ h z e.
      let (b, e₁, g) = R.split (i ∷ s) z e in
      let (x, c, e₂, j) = H z.0 b g in
      let n : i ≡ x = heads i x s (c ++ z.1) (e₁ ∙ ap (λ (l : List ℕ). l ++ z.1) e₂) in
      (b, e₁, only (sym j ∙ ap t (sym n) ∙ h) g)
    where
      heads : (i x : ℕ) (s l : List ℕ) → i ∷ s ≡ x ∷ l → i ≡ x
      heads i x s l e = cc

  pub reads_head : Reads (head_of t k p) (Only t' G)
  reads_head = record { whole = head_whole; split = head_split }

module _ {A B : Type 0} {p : Reader A} {q : A → Reader B} {G : Gram A} {H : A → Gram B} (R : Reads p G) (S : (a : A) → Reads (q a) (H a)) where
  then_whole : (a : A × B) (b r : List ℕ) → Then G H a b → then_of p q (b ++ r) ≡ got (a, r)
  unfolding then_of
  then_whole _ _ r (both {a = a} {c = c} {b = b} {d = d} g h) =
      rw (append_assoc b d r, R.whole a b (d ++ r) g, (S a).whole c d r h)

  then_split : (s : List ℕ) (z : (A × B) × List ℕ) → then_of p q s ≡ got z → Cut (Then G H) s z
  unfolding then_of
  then_split s = from_bind (p s) (λ x. q x.0 x.1 >>= λ y. got ((x.0, y.0), y.1)) λ x e.
      from_bind (q x.0 x.1) (λ y. got ((x.0, y.0), y.1)) λ y e'.
      let (b, e₁, g) = R.split s x e in
      let (d, e₂, h) = (S x.0).split x.1 y e' in
      from_got (Cut (Then G H) s) ((x.0, y.0), y.1) (b ++ d, rw append_assoc (rw (← e₂) e₁), both g h)

  pub reads_then : Reads (then_of p q) (Then G H)
  reads_then = record { whole = then_whole; split = then_split }

module _ {A : Type 0} {n : Reader ℕ} {q : ℕ → Filler A} {N : Gram ℕ} {H : Gram A} (k : ℕ → List ℕ → Refusal) (R : Reads n N) (S : (e : ℕ) → Fills (q e) H) (end : ℕ) where
  sized_whole : (a : A) (b r : List ℕ) → Sized N H a b → sized_of n k q end (b ++ r) ≡ got (a, r)
  unfolding sized_of
  sized_whole a _ r (sized {b = b} {c = c} l h) =
      rw (
        append_assoc c b r,
        R.whole (length b) c (b ++ r) l,
        le-leb (length b) (length (b ++ r)) (rw length-append (omega arith)),
        take-append_seam b r,
        drop-append_seam b r,
        (S (end - length r)).whole a b h,
      )

  sized_split : (s : List ℕ) (z : A × List ℕ) → sized_of n k q end s ≡ got z → Cut (Sized N H) s z
  unfolding sized_of
  sized_split s = from_bind (n s) (λ x. guard (leb x.0 (length x.1)) (k x.0 x.1) >> (q (end - length (drop x.0 x.1)) (take x.0 x.1) >>= λ a. got (a, drop x.0 x.1))) λ x e.
      from_guard (leb x.0 (length x.1)) (k x.0 x.1) (q (end - length (drop x.0 x.1)) (take x.0 x.1) >>= λ a. got (a, drop x.0 x.1)) λ h.
      from_bind (q (end - length (drop x.0 x.1)) (take x.0 x.1)) (λ a. got (a, drop x.0 x.1)) λ a e'.
      let (c, e₁, l) = R.split s x e in
      let b : List ℕ = take x.0 x.1 in
      let m : length b ≡ x.0 = length-take-le x.0 x.1 (leb→le x.0 (length x.1) (T_of (leb x.0 (length x.1)) h)) in
      from_got (Cut (Sized N H) s) (a, drop x.0 x.1)
      (c ++ b, rw (append_assoc, take-append-drop x.0 x.1) e₁, sized {c = c} (rw m l) ((S (end - length (drop x.0 x.1))).back b a e'))

  pub reads_sized : Reads (sized_of n k q end) (Sized N H)
  reads_sized = record { whole = sized_whole; split = sized_split }

module _ {A B : Type 0} {q : Filler A} {G : Gram A} (f : A → B) (S : Fills q G) where
  fit_whole : (a : B) (b : List ℕ) → Map f G a b → map_fit f q b ≡ got a
  unfolding map_fit
  fit_whole _ b (mapped {a = a} g) = rw (S.whole a b g)

  fit_back : (b : List ℕ) (z : B) → map_fit f q b ≡ got z → Map f G z b
  unfolding map_fit
  fit_back b = from_bind (q b) (λ a. got (f a)) λ a e. from_got (λ z. Map f G z b) (f a) (mapped (S.back b a e))

  pub fills_map : Fills (map_fit f q) (Map f G)
  fills_map = record { whole = fit_whole; back = fit_back }

module _ {A B : Type 0} {q : ℕ → Filler A} {G : Gram A} (f : A → List ℕ → ℕ → B) (f' : A → B) (m : (a : A) (b : List ℕ) (e : ℕ) → f a b e ≡ f' a) (S : (e : ℕ) → Fills (q e) G) (end : ℕ) where
  hand_whole : (a : B) (b : List ℕ) → Map f' G a b → hand_fit f q end b ≡ got a
  unfolding hand_fit
  hand_whole _ b (mapped {a = a} g) = rw ((S end).whole a b g, m a b end)

  hand_back : (b : List ℕ) (z : B) → hand_fit f q end b ≡ got z → Map f' G z b
  unfolding hand_fit
  hand_back b = from_bind (q end b) (λ a. got (f a b end)) λ a e. from_got (λ z. Map f' G z b) (f a b end) (rw (m a b end) (mapped ((S end).back b a e)))

  -- where what is handed back depends on the value only
  pub fills_hand : Fills (hand_fit f q end) (Map f' G)
  fills_hand = record { whole = hand_whole; back = hand_back }

and_both : (a b : Bool) → (a && b) ≡ true → (a ≡ true) × (b ≡ true)
and_both true b h = (refl, h)
and_both false b h = absurd (false≢true h)

pub fills_iff : {A : Type 0} {q : Filler A} {G H : Gram A} → ((a : A) (b : List ℕ) → G a b ↔ H a b) → Fills q G → Fills q H
fills_iff i S = record { whole = λ a b h. S.whole a b ((i a b).1 h); back = λ b a e. (i a b).0 (S.back b a e) }

unmap : {A : Type 0} {G : Gram A} (a : A) (b : List ℕ) → Map (λ v. v) G a b → G a b
unmap _ b (mapped g) = g

-- where the value itself is handed back
pub fills_as : {A : Type 0} {q : ℕ → Filler A} {G : Gram A} → ((e : ℕ) → Fills (q e) G) → (end : ℕ) → Fills (hand_fit (λ a _ _. a) q end) G
fills_as S end = fills_iff (λ a b. (unmap a b, mapped)) (fills_hand (λ a _ _. a) (λ a. a) (λ _ _ _. refl) S end)

module _ {S A : Type 0} (step : S → A → S) {p : S → Reader A} {G : S → Gram A} (R : (σ : S) → Reads (p σ) (G σ)) (L : (σ : S) → Solid (G σ)) where
  run_step : (σ : S) (f : List ℕ) (a : A) (b c : List ℕ) (vs : List A) → G σ a b
      → ((f' : List ℕ) → length c ≤ length f' → run_fit step p (step σ a) f' c ≡ got vs)
      → length (b ++ c) ≤ length f → run_fit step p σ f (b ++ c) ≡ got (a ∷ vs)
  unfolding run_fit
  run_step σ [] a [] c vs g ih h = absurd (L σ a [] g refl)
  run_step σ [] a (x ∷ b) c vs g ih h = absurd (omega arith)
  run_step σ (y ∷ f) a [] c vs g ih h = absurd (L σ a [] g refl)
  run_step σ (y ∷ f) a (x ∷ b) c vs g ih h =
      let l : length c ≤ length f = omega (arith, length-append b c) in
      rw ((R σ).whole a (x ∷ b) c g, ih f l)

  run_none : (σ : S) (f : List ℕ) → run_fit step p σ f [] ≡ got []
  unfolding run_fit
  run_none σ [] = refl
  run_none σ (y ∷ f) = refl

  run_whole : (σ : S) (a : List A) (b f : List ℕ) → length b ≤ length f → Chain step G σ a b → run_fit step p σ f b ≡ got a
  run_whole σ _ _ f h done = run_none σ f
  run_whole σ _ _ f h (more {a = a} {vs = vs} {b = b} {c = c} g m) = run_step σ f a b c vs g (λ f' h'. run_whole (step σ a) vs c f' h' m) h

  run_back : (σ : S) (f b : List ℕ) (z : List A) → run_fit step p σ f b ≡ got z → Chain step G σ z b
  unfolding run_fit
  run_back σ [] [] = from_got (λ z. Chain step G σ z []) [] done
  run_back σ [] (x ∷ s) = λ z e. absurd (bad_got e)
  run_back σ (y ∷ f) [] = from_got (λ z. Chain step G σ z []) [] done
  run_back σ (y ∷ f) (x ∷ s) =
      from_bind (p σ (x ∷ s)) (λ w. run_fit step p (step σ w.0) f w.1 >>= λ vs. got (w.0 ∷ vs)) λ w e.
      from_bind (run_fit step p (step σ w.0) f w.1) (λ vs. got (w.0 ∷ vs)) λ vs e'.
      let (b, e₁, g) = (R σ).split (x ∷ s) w e in
      from_got (λ z. Chain step G σ z (x ∷ s)) (w.0 ∷ vs) (rw e₁ (more g (run_back (step σ w.0) f w.1 vs e')))

  chain_whole : (σ : S) (a : List A) (b : List ℕ) → Chain step G σ a b → chain_fit step p σ b ≡ got a
  unfolding chain_fit
  chain_whole σ a b m = run_whole σ a b b (omega arith) m

  chain_back : (σ : S) (b : List ℕ) (z : List A) → chain_fit step p σ b ≡ got z → Chain step G σ z b
  unfolding chain_fit
  chain_back σ b z e = run_back σ b b z e

  pub fills_chain : (σ : S) → Fills (chain_fit step p σ) (Chain step G σ)
  fills_chain σ = record { whole = chain_whole σ; back = chain_back σ }

-- a chain of values that pass a test is a run of them that pass it one after the other
module _ {S A : Type 0} (step : S → A → S) (t : S → A → Bool) {G : Gram A} where
  chain_run : {σ : S} {vs : List A} {b : List ℕ} → Chain step (λ σ. Only (t σ) G) σ vs b → (all_from step t σ vs ≡ true) × Many G vs b
  chain_run done = (refl, done)
  chain_run (more (only h g) c) = let (i, m) = chain_run c in (rw (h, i), more g m)

  run_chain : {σ : S} {vs : List A} {b : List ℕ} → Many G vs b → all_from step t σ vs ≡ true → Chain step (λ σ. Only (t σ) G) σ vs b
  run_chain {σ = σ} done h = done
  run_chain {σ = σ} (more {a = a} {vs = vs} g m) h =
      let (i, j) = and_both (t σ a) (all_from step t (step σ a) vs) h in
      more (only i g) (run_chain {σ = step σ a} m j)

  pub chain_only : (σ : S) (vs : List A) (b : List ℕ) → Chain step (λ σ. Only (t σ) G) σ vs b ↔ Only (all_from step t σ) (Many G) vs b
  chain_only σ vs b = (λ c. let (h, m) = chain_run c in only h m, back)
    where
      back : {vs : List A} {b : List ℕ} → Only (all_from step t σ) (Many G) vs b → Chain step (λ σ. Only (t σ) G) σ vs b
      back (only h m) = run_chain m h

pub fills_many : {A : Type 0} {p : Reader A} {G : Gram A} → Reads p G → Solid G → Fills (many_fit p) (Many G)
fills_many R L = fills_chain forget (λ _. R) (λ _. L) tt

module _ {A B : Type 0} {p : Reader A} {q : A → Filler B} {G : Gram A} {H : A → Gram B} (R : Reads p G) (S : (a : A) → Fills (q a) (H a)) where
  end_whole : (a : A × B) (b : List ℕ) → Then G H a b → then_fit p q b ≡ got a
  unfolding then_fit
  end_whole _ _ (both {a = a} {c = c} {b = b} {d = d} g h) = rw (R.whole a b d g, (S a).whole c d h)

  end_back : (b : List ℕ) (z : A × B) → then_fit p q b ≡ got z → Then G H z b
  unfolding then_fit
  end_back s = from_bind (p s) (λ x. q x.0 x.1 >>= λ c. got (x.0, c)) λ x e.
      from_bind (q x.0 x.1) (λ c. got (x.0, c)) λ c e'.
      let (b, e₁, g) = R.split s x e in
      from_got (λ z. Then G H z s) (x.0, c) (rw e₁ (both g ((S x.0).back x.1 c e')))

  pub fills_then : Fills (then_fit p q) (Then G H)
  fills_then = record { whole = end_whole; back = end_back }

module _ {A : Type 0} {p : Reader A} {G : Gram A} (c : Refusal) (R : Reads p G) where
  exact_whole : (a : A) (b : List ℕ) → G a b → exact_fit p c b ≡ got a
  unfolding exact_fit
  exact_whole a b g = rw (rw (append-nil b) at (R.whole a b [] g))

  exact_back : (b : List ℕ) (z : A) → exact_fit p c b ≡ got z → G z b
  unfolding exact_fit
  exact_back s = from_bind (p s) (λ x. guard (is_empty x.1) c >> got x.0) λ x e.
      from_guard (is_empty x.1) c (got x.0) λ h.
      let (b, e₁, g) = R.split s x e in
      let n : x.1 ≡ [] = nil_of x.1 h in
      let e₂ : s ≡ b = e₁ ∙ ap (λ (l : List ℕ). b ++ l) n ∙ append-nil b in
      from_got (λ z. G z s) x.0 (rw e₂ g)

  pub fills_exact : Fills (exact_fit p c) G
  fills_exact = record { whole = exact_whole; back = exact_back }

module _ {A : Type 0} {q : Filler A} {G : Gram A} (t : A → Bool) (k : Refusal) (S : Fills q G) where
  only_fit_lem : (a : A) (b : List ℕ) → Only t G a b → only_fit t k q b ≡ got a
  unfolding only_fit
  only_fit_lem a b (only h g) = rw (S.whole a b g, h)

  only_back : (b : List ℕ) (z : A) → only_fit t k q b ≡ got z → Only t G z b
  unfolding only_fit
  only_back b = from_bind (q b) (λ a. guard (t a) k >> got a) λ a e. from_guard (t a) k (got a) λ h. from_got (λ z. Only t G z b) a (only h (S.back b a e))

  pub fills_only : Fills (only_fit t k q) (Only t G)
  fills_only = record { whole = only_fit_lem; back = only_back }

module _ (t : List ℕ → Bool) (P : List ℕ → Type 0) (c : Refusal) (D : (b : List ℕ) → (t b ≡ true) ↔ P b) where
  is_whole : (a b : List ℕ) → Is P a b → is_fit t c b ≡ got a
  unfolding is_fit
  is_whole _ b (is h) = rw ((D b).1 h)

  is_back : (b a : List ℕ) → is_fit t c b ≡ got a → Is P a b
  unfolding is_fit
  is_back b = from_guard (t b) c (got b) λ h. from_got (λ a. Is P a b) b (is ((D b).0 h))

  pub fills_is : Fills (is_fit t c) (Is P)
  fills_is = record { whole = is_whole; back = is_back }

never_whole : {A : Type 0} (c : Refusal) (a : A) (b r : List ℕ) → Never a b → never_of c (b ++ r) ≡ got (a, r)
never_whole c a b r g = elim g [ ]

pub reads_never : {A : Type 0} (c : Refusal) → Reads {A = A} (never_of c) Never
unfolding never_of
reads_never c = record { whole = never_whole c; split = λ s z e. absurd (bad_got e) }

-- two grammars with the same spellings have the same readers
pub reads_iff : {A : Type 0} {p : Reader A} {G H : Gram A} → ((a : A) (b : List ℕ) → G a b ↔ H a b) → Reads p G → Reads p H
reads_iff {G = G} {H = H} i R = record {
  whole = λ a b r h. R.whole a b r ((i a b).1 h);
  split = λ s z e. let (b, e₁, g) = R.split s z e in (b, e₁, (i z.0 b).0 g);
}

-- ---- spellings that are not empty

pub solid_map : {A B : Type 0} {G : Gram A} (f : A → B) → Solid G → Solid (Map f G)
solid_map f S _ b (mapped {a = a} g) e = S a b g e

pub solid_then : {A B : Type 0} {G : Gram A} {H : A → Gram B} → Solid G → Solid (Then G H)
solid_then S _ _ (both {a = a} {b = b} {d = d} g h) e = S a b g (left_nil b d e)

pub solid_sized : {A : Type 0} {N : Gram ℕ} {H : Gram A} → Solid N → Solid (Sized N H)
solid_sized S _ _ (sized {b = b} {c = c} n h) e = S (length b) c n (left_nil c b e)

pub solid_only : {A : Type 0} {G : Gram A} (t : A → Bool) → Solid G → Solid (Only t G)
solid_only t S a b (only h g) e = S a b g e

pub solid_by : {A : Type 0} {G : Gram A} (t : A → ℕ → Bool) → Solid G → Solid (OnlyBy t G)
solid_by t S a b (only_by h g) e = S a b g e

-- a reader of a grammar with no empty spelling leaves less
pub less : {A : Type 0} {p : Reader A} {G : Gram A} → Reads p G → Solid G → (s : List ℕ) (z : A × List ℕ) → p s ≡ got z → length z.1 < length s
less {G = G} R L s z e = let (b, e₁, g) = R.split s z e in front b z.1 g e₁
  where
    front : (b r : List ℕ) → G z.0 b → s ≡ b ++ r → length r < length s
    front [] r g e = absurd (L z.0 [] g refl)
    front (x ∷ b) r g e = omega (arith, ap length e, length-append b r)
