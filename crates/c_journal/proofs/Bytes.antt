-- A table taken from bytes, and a table stored.
-- Assumes nothing.
use mathlib.Core.Path.{◌≡◌, refl, sym, ap, ap₂, ◌∙◌, subst}
use mathlib.Core.Bool.{true, false}
use mathlib.Core.List.{List, [], ◌∷◌, ◌++◌}
use Prim.Native.Nat.{ℕ, suc, ◌+◌, ◌<◌, ◌≤◌}
use native.Mathlib.Numerals.{add-one}
use native.Mathlib.Omega.{arith}
use borrow.Author.Tests.{eq-eqb, ne_eqb, lt-ltb, le-ltb, le-leb, lt-leb}
use lib.ListN.{length, get_or, take, drop, set, length-set, drop_of_length-le}
use lib.Seq.{sets, drop-cons, take-suc, take-suc-set, take_all}
use Rattle.inflight.specs.Rules.{limit, all_states, is_table}
use Rattle.inflight.specs.TableAnswer.{code_of, waits_of}
use Rattle.inflight.specs.declared.Wait.{Wait}
use Rattle.inflight.specs.declared.InFlight.{InFlight}
use Rattle.inflight.proofs.Laws.{waits_length, wait_set}
use Rattle.journal.proofs.Stores.{Put, put_more}
use Rattle.c_journal.specs.Bytes.{stored}

-- ---- a table from bytes

pub record Taken (s : List ℕ) (t : InFlight) (i : ℕ) : Type 0 where
  pub within : i ≤ limit
  pub long : length t.places ≡ limit
  pub is : take i (waits_of t) ≡ take i s
  pub rest : all_states s ≡ all_states (drop i s)

pub taken_none : (s : List ℕ) (t : InFlight) → length t.places ≡ limit → Taken s t 0
taken_none s t e = record { within = omega arith; long = e; is = refl; rest = refl }

pub taken_more : {s : List ℕ} {t : InFlight} {i : ℕ} (w : Wait) → Taken s t i → i < limit → length s ≡ limit → code_of w ≡ get_or s i 0 → get_or s i 0 < 4
    → Taken s record { places = set t.places i record { wait = w } } (i + 1)
unfolding all_states
taken_more {s} {t} {i} w p h l e g = record {
  within = omega arith;
  long = length-set t.places i record { wait = w } ∙ p.long;
  is = ap (take (i + 1)) (wait_set t i w)
      ∙ rw add-one (take-suc-set (waits_of t) i (code_of w) (omega (arith, waits_length t, p.long)))
      ∙ ap₂ (λ (u : List ℕ) (x : ℕ). u ++ (x ∷ [])) p.is e
      ∙ (let q : take i s ++ (get_or s i 0 ∷ []) ≡ take (i + 1) s = rw add-one (sym (take-suc s i 0 (omega (arith, l)))) in q);
  rest = p.rest
      ∙ (let q : drop i s ≡ get_or s i 0 ∷ drop (suc i) s = drop-cons s i 0 (omega (arith, l)) in ap all_states q)
      ∙ rw (add-one, lt-ltb (get_or s i 0) 4 g);
}

not_state : (s : List ℕ) (t : InFlight) (i : ℕ) → Taken s t i → i < limit → length s ≡ limit → 4 ≤ get_or s i 0 → all_states s ≡ false
unfolding all_states
not_state s t i p h l g =
    p.rest ∙ (let q : drop i s ≡ get_or s i 0 ∷ drop (suc i) s = drop-cons s i 0 (omega (arith, l)) in ap all_states q)
    ∙ rw (le-ltb (get_or s i 0) 4 g)

pub not_long : (s : List ℕ) → (length s ≡ limit → ⊥) → is_table s ≡ false
unfolding is_table
not_long s h = rw (ne_eqb (length s) limit h)

no_state : (s : List ℕ) (t : InFlight) (i : ℕ) → Taken s t i → i < limit → length s ≡ limit → 4 ≤ get_or s i 0 → is_table s ≡ false
unfolding is_table
no_state s t i p h l g = rw (eq-eqb (length s) limit l, not_state s t i p h l g)

pub not_states : {s : List ℕ} {t : InFlight} {i : ℕ} → Taken s t i → i < limit → length s ≡ limit → 4 ≤ get_or s i 0 → is_table s ≡ false
not_states {s} {t} {i} p h l g = no_state s t i p h l g

all_states_lem : (s : List ℕ) (t : InFlight) (i : ℕ) → Taken s t i → length s ≡ limit → limit ≤ i → all_states s ≡ true
unfolding all_states
all_states_lem s t i p l h = p.rest ∙ (let e : length s ≤ i = omega (arith, l) in rw (drop_of_length-le s e))

pub taken_all : {s : List ℕ} {t : InFlight} {i : ℕ} → Taken s t i → length s ≡ limit → limit ≤ i → (is_table s ≡ true) × (waits_of t ≡ s)
unfolding is_table
taken_all {s} {t} {i} p l h = (
  rw (eq-eqb (length s) limit l, all_states_lem s t i p l h),
  sym (take_all i (waits_of t) (omega (arith, waits_length t, p.long))) ∙ p.is ∙ take_all i s (omega (arith, l)),
)

-- ---- a table stored

pub code_more : {d s out : List ℕ} {i v : ℕ} → Put d s 0 out i → i < length s → v ≡ get_or s i 0 → Put d s 0 (set out i v) (i + 1)
code_more {d} {s} {out} {i} {v} p h e =
    let g : 0 + i ≡ i = omega arith in
    subst (λ (o : List ℕ). Put d s 0 o (i + 1)) (ap₂ (λ (j x : ℕ). set out j x) g (sym e)) (put_more p h)

pub stored_fits : (t out : List ℕ) → limit ≤ length out → sets out 0 t ≡ stored t out
unfolding stored
stored_fits t out h = rw (le-leb limit (length out) h)

pub stored_not : (t out : List ℕ) → length out < limit → out ≡ stored t out
unfolding stored
stored_not t out h = rw (lt-leb limit (length out) h)
