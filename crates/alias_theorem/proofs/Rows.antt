-- `refused_iff`: a message gets a refusal exactly if its row is the first that holds. Assumes nothing.
use mathlib.Core.Path.{◌≡◌, refl, sym, ap, ◌∙◌}
use mathlib.Core.Logic.{◌↔◌, inl, inr}
use mathlib.Core.Bool.{Bool, true, false, not, ◌&&◌, ◌||◌, false≢true, or-true, or-false}
use mathlib.Core.Option.{Option, none, some}
use mathlib.Core.List.{List, [], ◌∷◌}
use Prim.Native.Nat.{ℕ, zero, suc, ◌≤◌, ◌<◌}
use native.Mathlib.Omega.{arith}
use lib.Dec.{leb, eqb}
use lib.ListN.{length}
use borrow.Author.Tests.{eq-eqb, ne_eqb, eqb-true, eqb-false, le-leb, lt-leb, leb-false, not-false}
use Rattle.reading.specs.Refusal.{Refusal}
use Rattle.reading.specs.Reader.{Fit, got, bad, ◌>>◌, guard}
use Rattle.reading.proofs.Reading.{bad_got}
use Rattle.alias.specs.Table.{stored_len, lengths_good, table_good}
use Rattle.alias.specs.Alias.{alias_table_bad, alias_invalid, topic_missing, alias_unknown, alias_no_room, is_alias, of_alias, empty, permit}
use Rattle.alias.proofs.Laws.{length_good}
use Rattle.alias_theorem.specs.Rows.{TableBad, Invalid, Missing, Unknown, NoRoom, OrElse, Refuses}

-- ---- a guard is a row

bad_inj : {A : Type 0} {x y : Refusal} → ◌≡◌ {A = Fit A} (bad x) (bad y) → x ≡ y
bad_inj e = cc

-- a guard that others follow
guard_rows : (b : Bool) (k : Refusal) (m : Fit (Unit {0})) {P : Type 0} {Q : Refusal → Type 0} → (b ≡ false) ↔ P → ((x : Refusal) → (m ≡ bad x) ↔ Q x)
    → (x : Refusal) → ((guard b k >> m) ≡ bad x) ↔ OrElse P k Q x
guard_rows true k m {P} {Q} t r x = (λ e. inr (λ p. false≢true (sym (t.1 p)), (r x).0 e), go)
  where
    go : OrElse P k Q x → m ≡ bad x
    go (inl (p, e)) = absurd (false≢true (sym (t.1 p)))
    go (inr (n, q)) = (r x).1 q
guard_rows false k m {P} {Q} t r x = (λ e. inl (t.0 refl, sym (bad_inj e)), go)
  where
    go : OrElse P k Q x → ◌≡◌ {A = Fit (Unit {0})} (bad k) (bad x)
    go (inl (p, e)) = ap bad (sym e)
    go (inr (n, q)) = absurd (n (t.0 refl))

-- the last one
guard_row : (b : Bool) (k : Refusal) {P : Type 0} → (b ≡ false) ↔ P → (x : Refusal) → (guard b k ≡ bad x) ↔ OrElse P k (λ y. ⊥) x
guard_row b k {P} t x = rw (last b) (guard_rows b k (got tt) t (λ y. (λ e. bad_got (sym e), λ z. absurd z)) x)
  where
    last : (b : Bool) → guard b k ≡ (guard b k >> got tt)
    last true = refl
    last false = refl

-- ---- the five tests

-- some stored length of n is above 128
abbrev Above : ℕ → List ℕ → Type 0
Above n t = (a : ℕ) × (1 ≤ a) × (a ≤ n) × (128 < stored_len t a)

above_is : (n : ℕ) (t : List ℕ) → lengths_good n t ≡ false → Above n t
unfolding lengths_good
above_is zero t e = absurd (false≢true (sym e))
above_is (suc n) t e = go (leb (stored_len t (suc n)) 128) refl e (above_is n t)
  where
    go : (b : Bool) → leb (stored_len t (suc n)) 128 ≡ b → (b && lengths_good n t) ≡ false → (lengths_good n t ≡ false → Above n t) → Above (suc n) t
    go true p h ih = let (a, l, k, o) = ih h in (a, l, omega arith, o)
    go false p h ih = (suc n, omega arith, omega arith, leb-false (stored_len t (suc n)) 128 p)

is_above : (n : ℕ) (t : List ℕ) → Above n t → lengths_good n t ≡ false
is_above n t (a, l, k, o) = go (lengths_good n t) refl
  where
    go : (b : Bool) → lengths_good n t ≡ b → lengths_good n t ≡ false
    go true e = absurd (omega (arith, length_good t n a e l k))
    go false e = e

table_row_lem : (t : List ℕ) → (table_good t ≡ false) ↔ TableBad t
table_row_lem t = (to (eqb (length t) 2064) refl, of)
  where
    to : (b : Bool) → eqb (length t) 2064 ≡ b → table_good t ≡ false → TableBad t
    to true p e = inr (above_is 16 t (rw p at e))
    to false p e = inl (eqb-false (length t) 2064 p)

    of : TableBad t → table_good t ≡ false
    of (inl n) = rw (ne_eqb (length t) 2064 n)
    of (inr a) = rw (is_above 16 t a) (go (eqb (length t) 2064))
      where
        go : (b : Bool) → (b && false) ≡ false
        go true = refl
        go false = refl

alias_row : (a : Option ℕ) → (of_alias true is_alias a ≡ false) ↔ Invalid a
alias_row none = (λ e. false≢true (sym e), λ z. absurd z)
alias_row (some a) = (to (leb 1 a) refl, of)
  where
    to : (b : Bool) → leb 1 a ≡ b → is_alias a ≡ false → Invalid (some a)
    to true p e = inr (leb-false a 16 (rw p at e))
    to false p e = inl (omega (arith, leb-false 1 a p))

    of : Invalid (some a) → is_alias a ≡ false
    of (inl z) = rw z
    of (inr h) = rw (le-leb 1 a (omega arith), lt-leb a 16 h)

missing_row : (topic : List ℕ) (a : Option ℕ) → ((not (empty topic) || of_alias false (λ n. true) a) ≡ false) ↔ Missing topic a
missing_row [] none = (λ e. (refl, refl), λ m. refl)
missing_row [] (some a) = (λ e. absurd (false≢true (sym e)), λ m. let z : ◌≡◌ {A = ℕ} 0 1 = cc m.1 in absurd (omega arith))
missing_row (c ∷ s) a = (λ e. absurd (false≢true (sym e)), λ m. let z : ◌≡◌ {A = ℕ} 0 1 = cc m.0 in absurd (omega arith))

unknown_row : (t topic : List ℕ) (a : Option ℕ) → ((not (empty topic) || of_alias true (λ n. not (eqb (stored_len t n) 0)) a) ≡ false) ↔ Unknown t topic a
unknown_row t [] none = (λ e. absurd (false≢true (sym e)), λ m. let z : ◌≡◌ {A = ℕ} 0 1 = cc m.1.1 in absurd (omega arith))
unknown_row t [] (some a) = (
  λ e. (refl, (a, refl, eqb-true (stored_len t a) 0 (not-false (eqb (stored_len t a) 0) e))),
  λ m. let same : a ≡ m.1.0 = cc m.1.1 in ap not (eq-eqb (stored_len t a) 0 (rw same m.1.2)),
)
unknown_row t (c ∷ s) a = (λ e. absurd (false≢true (sym e)), λ m. let z : ◌≡◌ {A = ℕ} 0 1 = cc m.0 in absurd (omega arith))

room_row : (topic : List ℕ) (a : Option ℕ) → ((leb (length topic) 128 || of_alias true (λ n. false) a) ≡ false) ↔ NoRoom topic a
room_row topic none = (λ e. absurd (false≢true (sym e ∙ or-true (leb (length topic) 128))), λ m. let z : ◌≡◌ {A = ℕ} 0 1 = cc m.1.1 in absurd (omega arith))
room_row topic (some a) = (λ e. (leb-false (length topic) 128 (sym (or-false (leb (length topic) 128)) ∙ e), (a, refl)), λ m. rw (lt-leb (length topic) 128 m.0))

-- P6: a message gets the refusal x exactly if the row of x is the first that holds
pub refused_iff : (t topic : List ℕ) (a : Option ℕ) (x : Refusal) → (permit t topic a ≡ bad x) ↔ Refuses t topic a x
unfolding permit
refused_iff t topic a =
    guard_rows _ alias_table_bad _ (table_row_lem t)
    (guard_rows _ alias_invalid _ (alias_row a)
    (guard_rows _ topic_missing _ (missing_row topic a)
    (guard_rows _ alias_unknown _ (unknown_row t topic a) (guard_row _ alias_no_room (room_row topic a)))))
