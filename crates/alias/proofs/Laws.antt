-- The table's tests, the order of the refusals, what is set, and where the topic in force lies. Assumes nothing.
use Rattle.std.specs.Prelude as std
use Rattle.std.specs.Prelude.{Some, None}
use Rattle.std.specs.Prelude.{Result, Err, IsErrAnd}
use Rattle.std.proofs.lemmas.Result.{err_from_is_err_and}
use mathlib.Core.Path.{◌≡◌, refl, sym, ap, ◌∙◌}
use mathlib.Core.Bool.{Bool, true, false, not, ◌&&◌, ◌||◌, false≢true, or-true}
use mathlib.Core.Option.{Option, none, some}
use mathlib.Core.List.{List, [], ◌∷◌}
use Prim.Native.Nat.{ℕ, zero, suc, ◌+◌, ◌-◌, ◌*◌, ◌≤◌, ◌<◌}
use native.Mathlib.Numerals.{add-one}
use native.Mathlib.Omega.{arith}
use lib.Dec.{leb, eqb}
use lib.ListN.{length, get_or}
use borrow.Author.Tests.{eq-eqb, ne_eqb, eqb-true, eqb-false, le-leb, lt-leb, leb-true}
use Rattle.reading.specs.Refusal.{Refusal}
use Rattle.reading.specs.Reader.{Fit, got, bad, ◌>>◌, guard}
use Rattle.reading.specs.Place.{Span, held_of}
use Rattle.reading.proofs.Reading.{bad_got}
use Rattle.records.specs.AsNumbers.{told_number_if}
use Rattle.records.specs.AsNumbers.{number_if as given_if}
use Rattle.alias.specs.AliasAnswer.{number_if, told_alias, alias_by, Learnt}
use Rattle.alias.specs.declared.AliasError.{AliasError}
use Rattle.alias.specs.Table.{stored_len, lengths_good, table_good, set_alias}
use Rattle.alias.specs.Alias.{alias_table_bad, alias_invalid, topic_missing, alias_unknown, alias_no_room, is_alias, of_alias, empty, permit, set_by, table_after, in_packet, stored_at, in_force}

pub both : (a b : Bool) → (a && b) ≡ true → (a ≡ true) × (b ≡ true)
both true b e = (refl, e)
both false b e = absurd (false≢true e)

-- ---- the table

module _ (t : List ℕ) where
  pub good_length : table_good t ≡ true → length t ≡ 2064
  good_length g = eqb-true (length t) 2064 (both (eqb (length t) 2064) (lengths_good 16 t) g).0

  pub good_lengths : table_good t ≡ true → lengths_good 16 t ≡ true
  good_lengths g = (both (eqb (length t) 2064) (lengths_good 16 t) g).1

  pub good_is : length t ≡ 2064 → true ≡ lengths_good 16 t → table_good t ≡ true
  good_is e g = rw (eq-eqb (length t) 2064 e) (sym g)

  pub bad_size : (length t ≡ 2064 → ⊥) → table_good t ≡ false
  bad_size e = rw (ne_eqb (length t) 2064 e)

  pub bad_length : length t ≡ 2064 → false ≡ lengths_good 16 t → table_good t ≡ false
  bad_length e g = rw (eq-eqb (length t) 2064 e) (sym g)

  -- a length byte that is one of n, from 1 on
  pub length_good : (n a : ℕ) → lengths_good n t ≡ true → 1 ≤ a → a ≤ n → stored_len t a ≤ 128
  unfolding lengths_good
  length_good zero a g h k = absurd (omega arith)
  length_good (suc n) a g h k =
      let (p, q) = both (leb (stored_len t (suc n)) 128) (lengths_good n t) g in
      go (eqb a (suc n)) refl p (length_good n a q h)
    where
      go : (b : Bool) → eqb a (suc n) ≡ b → leb (stored_len t (suc n)) 128 ≡ true → (a ≤ n → stored_len t a ≤ 128) → stored_len t a ≤ 128
      go true e p ih = rw (eqb-true a (suc n) e) (leb-true (stored_len t (suc n)) 128 p)
      go false e p ih = ih (omega (arith, eqb-false a (suc n) e))

  -- the loop over them
  pub lengths_next : (n : ℕ) → lengths_good n t ≡ true → get_or t (n * 129) 0 ≤ 128 → lengths_good (n + 1) t ≡ true
  unfolding lengths_good
  lengths_next n g h = let e : suc n - 1 ≡ n = omega arith in rw (add-one n, e, le-leb (get_or t (n * 129) 0) 128 h) g

  pub lengths_none : (n : ℕ) → n ≤ 0 → lengths_good n t ≡ true
  unfolding lengths_good
  lengths_none zero h = refl
  lengths_none (suc n) h = absurd (omega arith)

  pub lengths_bad : (n m : ℕ) → n < m → 128 < get_or t (n * 129) 0 → false ≡ lengths_good m t
  lengths_bad n m l h = go (lengths_good m t) refl
    where
      go : (b : Bool) → lengths_good m t ≡ b → false ≡ b
      go true g =
          let e : suc n - 1 ≡ n = omega arith in
          absurd (omega (arith, h, rw e at (length_good m (suc n) g (omega arith) (omega arith))))
      go false g = refl

-- ---- the order of the refusals

pub is_empty_lem : (s : List ℕ) → length s ≡ 0 → empty s ≡ true
is_empty_lem [] h = refl
is_empty_lem (c ∷ s) h = absurd (omega arith)

pub not_empty : (s : List ℕ) → (length s ≡ 0 → ⊥) → empty s ≡ false
not_empty [] h = absurd (h refl)
not_empty (c ∷ s) h = refl

module _ (t topic : List ℕ) where
  pub permit_table : (a : Option ℕ) → table_good t ≡ false → bad alias_table_bad ≡ permit t topic a
  unfolding permit
  permit_table a g = rw g

  module _ (g : table_good t ≡ true) where
    pub permit_missing : length topic ≡ 0 → bad topic_missing ≡ permit t topic none
    unfolding permit
    permit_missing e = rw (g, is_empty_lem topic e)

    pub permit_plain : (length topic ≡ 0 → ⊥) → got tt ≡ permit t topic none
    unfolding permit
    permit_plain e = rw (g, not_empty topic e, or-true (leb (length topic) 128))

    module _ (a : ℕ) where
      pub permit_zero : a ≡ 0 → bad alias_invalid ≡ permit t topic (some a)
      unfolding permit
      permit_zero e = rw (g, e)

      pub permit_above : 16 < a → bad alias_invalid ≡ permit t topic (some a)
      unfolding permit
      permit_above h = rw (g, le-leb 1 a (omega arith), lt-leb a 16 h)

      module _ (h : 1 ≤ a) (k : a ≤ 16) where
        valid : is_alias a ≡ true
        valid = rw (le-leb 1 a h, le-leb a 16 k)

        pub permit_unknown : length topic ≡ 0 → stored_len t a ≡ 0 → bad alias_unknown ≡ permit t topic (some a)
        unfolding permit
        permit_unknown e z = rw (g, valid, is_empty_lem topic e, eq-eqb (stored_len t a) 0 z)

        pub permit_known : length topic ≡ 0 → (stored_len t a ≡ 0 → ⊥) → got tt ≡ permit t topic (some a)
        unfolding permit
        permit_known e z = rw (g, valid, is_empty_lem topic e, ne_eqb (stored_len t a) 0 z, le-leb (length topic) 128 (omega arith))

        pub permit_long : (length topic ≡ 0 → ⊥) → 128 < length topic → bad alias_no_room ≡ permit t topic (some a)
        unfolding permit
        permit_long e l = rw (g, valid, not_empty topic e, lt-leb (length topic) 128 l)

        pub permit_new : (length topic ≡ 0 → ⊥) → length topic ≤ 128 → got tt ≡ permit t topic (some a)
        unfolding permit
        permit_new e l = rw (g, valid, not_empty topic e, le-leb (length topic) 128 l)

-- the refusal e leaves by a `?`, as the answer r, which tells what e tells
pub handed_on : {T B : Type 0} (f : T → B) (r : Result T AliasError) (e : AliasError) {x : Fit B} → IsErrAnd r (λ y. y ≡ e) → bad (told_alias e) ≡ x → alias_by f r ≡ x
handed_on f r e i h = let p = err_from_is_err_and r i in ap (alias_by f) (p.1 ∙ ap Err p.2) ∙ h

pub number_told : (m : std.Option ℕ) → given_if m ≡ number_if (told_number_if m)
number_told None = refl
number_told (Some n) = refl

-- ---- what a message that is not refused has

from_guard : (b : Bool) (k : Refusal) (m : Fit (Unit {0})) → (guard b k >> m) ≡ got tt → (b ≡ true) × (m ≡ got tt)
from_guard true k m e = (refl, e)
from_guard false k m e = absurd (bad_got e)

from_guard₁ : (b : Bool) (k : Refusal) → guard b k ≡ got tt → b ≡ true
from_guard₁ true k e = refl
from_guard₁ false k e = absurd (bad_got e)

pub record Permits (t topic : List ℕ) (a : Option ℕ) : Type 0 where
  pub good : table_good t ≡ true
  pub valid : of_alias true is_alias a ≡ true
  pub given : (not (empty topic) || of_alias false (λ n. true) a) ≡ true
  pub known : (not (empty topic) || of_alias true (λ n. not (eqb (stored_len t n) 0)) a) ≡ true
  pub room : (leb (length topic) 128 || of_alias true (λ n. false) a) ≡ true

pub permits : (t topic : List ℕ) (a : Option ℕ) → permit t topic a ≡ got tt → Permits t topic a
unfolding permit
permits t topic a e =
    let (good, e₁) = from_guard _ alias_table_bad _ e in
    let (valid, e₂) = from_guard _ alias_invalid _ e₁ in
    let (given, e₃) = from_guard _ topic_missing _ e₂ in
    let (known, e₄) = from_guard _ alias_unknown _ e₃ in
    record { good = good; valid = valid; given = given; known = known; room = from_guard₁ _ alias_no_room e₄ }

alias_range : (n : ℕ) → is_alias n ≡ true → (1 ≤ n) × (n ≤ 16)
alias_range n e = let (p, q) = both (leb 1 n) (leb n 16) e in (leb-true 1 n p, leb-true n 16 q)

-- the alias of a message that is not refused
module _ (t topic : List ℕ) (o : Option ℕ) (a : ℕ) (e : o ≡ some a) where
  pub in_range_lem : of_alias true is_alias o ≡ true → (1 ≤ a) × (a ≤ 16)
  in_range_lem v = alias_range a (rw e at v)

  pub has_room : permit t topic o ≡ got tt → length topic ≤ 128
  has_room g = leb-true (length topic) 128 (go (leb (length topic) 128) (rw e at (permits t topic o g).room))
    where
      go : (b : Bool) → (b || false) ≡ true → b ≡ true
      go true h = refl
      go false h = h

-- ---- what is set

module _ (t topic : List ℕ) where
  pub set_some : (a : ℕ) → 0 < length topic → set_alias t a topic ≡ set_by t topic (some a)
  set_some a h = rw (not_empty topic (λ e. omega arith))

  pub set_none : (a : ℕ) → length topic ≤ 0 → t ≡ set_by t topic (some a)
  set_none a h = rw (is_empty_lem topic (omega arith))

  module _ (a : Option ℕ) where
    pub after_bad : (k : Refusal) → bad k ≡ permit t topic a → t ≡ table_after t topic a
    unfolding table_after
    after_bad k e = rw (sym e)

    pub after_got : got tt ≡ permit t topic a → set_by t topic a ≡ table_after t topic a
    unfolding table_after
    after_got e = rw (sym e)

-- what is learnt of a topic k and an alias n, as they were taken, is learnt of the message's
pub learnt_as : {t k u : List ℕ} {n : Option ℕ} {r : Result (Unit {0}) AliasError} (topic : List ℕ) (a : Option ℕ) → k ≡ topic → n ≡ a → Learnt t k n u r → Learnt t topic a u r
learnt_as topic a e f l = rw (sym e, sym f) l

-- ---- where the topic in force lies; k is the packet's own topic as it was taken

module _ (s t k : List ℕ) (p : Span) (a : Option ℕ) (b : k ≡ held_of s p) where
  pub force_bad : (x : Refusal) → bad x ≡ permit t k a → bad x ≡ in_force s t p a
  unfolding in_force
  force_bad x e = rw (sym (rw b at e))

  module _ (e : got tt ≡ permit t k a) where
    pub force_own : 0 < length k → got (in_packet p) ≡ in_force s t p a
    unfolding in_force
    force_own h = rw (sym (rw b at e), not_empty (held_of s p) (λ z. omega (arith, rw b at h)))

    pub force_stored : length k ≤ 0 → got (stored_at t p a) ≡ in_force s t p a
    unfolding in_force
    force_stored h = rw (sym (rw b at e), is_empty_lem (held_of s p) (omega (arith, rw b at h)))
