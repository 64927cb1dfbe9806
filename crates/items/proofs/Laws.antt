-- How the search for the n-th value goes on over the properties of a block. Assumes nothing.
use Rattle.std.specs.Prelude.{Ok, Err}
use mathlib.Core.Path.{◌≡◌, refl, sym, ap, ◌∙◌}
use mathlib.Core.Bool.{Bool, true, false, not, cond}
use mathlib.Core.Option.{some}
use mathlib.Core.List.{List, [], ◌∷◌}
use Prim.Native.Nat.{ℕ, zero, suc, ◌+◌, ◌-◌, ◌≤◌, ◌<◌}
use native.Mathlib.Omega.{arith}
use lib.Dec.{T, eqb}
use lib.ListN.{length, take, drop, get_or, set, replicate, length-set, length-drop, drop_of_length-le}
use lib.Seq.{drop-cons, length-take-le, get_or-set_same, get_or-set_other}
use borrow.Author.Tests.{eqb-true, eqb-false, eq-eqb, ne_eqb, le-leb, lt-leb}
use denote.Enum.Declared.{tag_of}
use mir.Val.{has_key}
use types.Run.{OneOf, miss}
use Rattle.grammar.specs.Choice.{is_in}
use Rattle.grammar.specs.Tables.{Form, u8, u16, u32, number, text, bytes, pair, Row, publish_row, subscribe_row, ack_row, unsubscribe_row, is_list, form_at}
use Rattle.grammar.specs.Record.{PropOf, all_of}
use Rattle.grammar.specs.Sentence.{met}
use Rattle.reading.specs.Refusal.{Refusal, nr}
use Rattle.reading.specs.Reader.{Fit, got, bad, Reader, ◌>>=◌, chain_fit}
use Rattle.reading.specs.Read.{property_of, once_of, properties_fit}
use Rattle.reading.specs.Place.{Span, as_places, or_no_item, again, nth_of, values_at}
use Rattle.positions.proofs.At.{part_slice}
use Rattle.positions.proofs.Walk.{chain_nil, chain_bad, chain_next}
use Rattle.positions.proofs.Less.{once_less, once_fresh, once_twice}
use Rattle.positions.proofs.Position.{bad_left}
use Rattle.records.specs.AsNumbers.{told_error}
use Rattle.records.specs.declared.error.Error.{Error}
use Rattle.tables.specs.Property.{table_row}
use Rattle.tables.specs.declared.property.PropertyRow.{PropertyRow}
use Rattle.tables.specs.declared.property.PropertyRow.TheVariants.{Publish, Subscribe, Ack, Unsubscribe}
use Rattle.property_value.specs.OneProperty.{told_value, form_of, PropertyRead}
use Rattle.property_value.proofs.Laws.{value_tag, property_left, property_ahead}
use Rattle.property_value.specs.declared.Value.{Value}
use Rattle.property_value.specs.declared.Value.TheVariants.{U8, U16, U32, Number, Text, Bytes, Pair}
use Rattle.property_value.specs.contracts.Value.{the_type}
use Rattle.items.specs.Nth.{sought, Formed, SeekOn, sought_in, SeekIn, NthRead}
use Rattle.items.specs.declared.Seek.{Seek}
use Rattle.items.specs.declared.Seek.TheVariants.{Left, At}

-- ---- one property

module _ (i k : ℕ) (v : Value) where
  pub seek_other : (q : Seek) → (k ≡ i → ⊥) → SeekOn q i k v q
  unfolding all_of
  seek_other q h = record { says = λ ps. rw (ne_eqb k i h); formed = λ f e t. t }

  module _ (h : k ≡ i) where
    pub seek_here : SeekOn (Left 0) i k v (At v)
    unfolding all_of
    seek_here = record { says = λ ps. rw (eq-eqb k i h); formed = λ f e t. rw h at e }

    pub seek_past : (n : ℕ) → (n ≡ 0 → ⊥) → SeekOn (Left n) i k v (Left (n - 1))
    unfolding all_of
    seek_past zero z = absurd (z refl)
    seek_past (suc n) z = let e : suc n - 1 ≡ n = omega arith in record { says = λ ps. rw (e, eq-eqb k i h); formed = λ f d t. tt }

    pub seek_after : (w : Value) → SeekOn (At w) i k v (At w)
    seek_after w = record { says = λ ps. refl; formed = λ f e t. t }

-- ---- what was met

pub none_met : (n k : ℕ) → false ≡ get_or (replicate n false) k false
none_met zero k = refl
none_met (suc n) zero = refl
none_met (suc n) (suc k) = none_met n k

-- of σ it is kept in m which were met; k, which was not, is met now, if it is single-valued (02, P9)
met_now : (row : Row) (k : ℕ) (σ : List ℕ) (m : List Bool) → k < length m → ((j : ℕ) → is_in j σ ≡ get_or m j false) → get_or m k false ≡ false
    → (j : ℕ) → is_in j (cond (is_list row k) σ (k ∷ σ)) ≡ get_or (set m k (not (is_list row k))) j false
met_now row k σ m h t n j = go (is_list row k) (eqb j k) refl
  where
    go : (l b : Bool) → eqb j k ≡ b → is_in j (cond l σ (k ∷ σ)) ≡ get_or (set m k (not l)) j false
    go true true e = let i : j ≡ k = eqb-true j k e in rw i (t k ∙ n ∙ sym (get_or-set_same m k false false h))
    go true false e = t j ∙ sym (get_or-set_other m k j false false (eqb-false j k e))
    go false true e = let i : j ≡ k = eqb-true j k e in rw e (sym (ap (λ (x : ℕ). get_or (set m k true) x false) i ∙ get_or-set_same m k true false h))
    go false false e = rw e (t j ∙ sym (get_or-set_other m k j true false (eqb-false j k e)))

-- 02, P9: "Which are single-valued goes by the place"
pub single_user : (w : PropertyRow) (k : ℕ) → k ≡ 38 → false ≡ not (is_list (table_row w) k)
unfolding publish_row subscribe_row ack_row unsubscribe_row
single_user Publish k e = rw e
single_user Subscribe k e = rw e
single_user Ack k e = rw e
single_user Unsubscribe k e = rw e

-- 11 is a list in Publish alone
abbrev pub ident_single : PropertyRow → Bool
ident_single Publish = false
ident_single Subscribe = true
ident_single Ack = true
ident_single Unsubscribe = true

pub single_ident : (w : PropertyRow) (k : ℕ) → k ≡ 11 → ident_single w ≡ not (is_list (table_row w) k)
unfolding publish_row subscribe_row ack_row unsubscribe_row
single_ident Publish k e = rw e
single_ident Subscribe k e = rw e
single_ident Ack k e = rw e
single_ident Unsubscribe k e = rw e

pub single_other : (w : PropertyRow) (k : ℕ) → (k ≡ 38 → ⊥) → (k ≡ 11 → ⊥) → true ≡ not (is_list (table_row w) k)
unfolding publish_row subscribe_row ack_row unsubscribe_row
single_other Publish k a b = rw (ne_eqb k 38 a, ne_eqb k 11 b)
single_other Subscribe k a b = rw (ne_eqb k 38 a)
single_other Ack k a b = rw (ne_eqb k 38 a)
single_other Unsubscribe k a b = rw (ne_eqb k 38 a)

-- ---- the properties of a block, one after the other

module _ (row : Row) (i : ℕ) (s : List ℕ) where
  -- the readings of a block are a chain of these, where σ were met
  abbrev reads : List ℕ → Reader (PropOf Span)
  reads σ = once_of as_places row (length s) σ

  module _ (start n : ℕ) where
    -- the search goes on as q from index `at`, where those that m says were met, and a value found is of the form of property i
    pub record Seeking (q : Seek) (m : List Bool) (at : ℕ) : Type 0 where
      pub σ : List ℕ
      pub kept : length m ≡ 256
      pub there : (k : ℕ) → is_in k σ ≡ get_or m k false
      pub goes : sought_in row i (length s) (Left n) [] (drop start s) ≡ sought_in row i (length s) q σ (drop at s)
      pub formed : Formed (form_at row i) q

    pub seeking_start : Seeking (Left n) (replicate 256 false) start
    seeking_start = record { σ = []; kept = refl; there = none_met 256; goes = refl; formed = tt }

    module _ {q : Seek} {m : List Bool} {at : ℕ} (w : Seeking q m at) where
      pub seeking_end : length s ≤ at → SeekIn row i s start n q
      unfolding sought_in all_of
      seeking_end h = record {
        says = sym (w.goes ∙ rw (drop_of_length-le s h, chain_nil (met row) reads (length s) (once_less row (length s)) w.σ));
        formed = w.formed;
      }

      module _ (h : at < length s) where
        stop : (c : Refusal) → reads w.σ (get_or s at 0 ∷ drop (suc at) s) ≡ bad c → SeekIn row i s start n (Left n)
        unfolding sought_in
        stop c f = record {
          says = sym (w.goes ∙ rw (drop-cons s at 0 h, chain_bad (met row) reads (length s) (once_less row (length s)) w.σ (get_or s at 0) (drop (suc at) s) c f));
          formed = tt;
        }

        -- the identifier at the index was met
        pub seeking_twice : get_or m (get_or s at 0) false ≡ true → SeekIn row i s start n (Left n)
        seeking_twice t = stop (nr 22 (get_or s at 0 ∷ [])) (once_twice as_places row (length s) w.σ (get_or s at 0) (drop (suc at) s) (w.there (get_or s at 0) ∙ t))

        -- it was not
        module _ (t : get_or m (get_or s at 0) false ≡ false) where
          fresh : reads w.σ (get_or s at 0 ∷ drop (suc at) s) ≡ property_of as_places row (length s) (get_or s at 0 ∷ drop (suc at) s)
          fresh = once_fresh as_places row (length s) w.σ (get_or s at 0) (drop (suc at) s) (w.there (get_or s at 0) ∙ t)

          pub seeking_bad : {e : Error} → PropertyRead row s at (Err e) → SeekIn row i s start n (Left n)
          seeking_bad {e = e} r = stop (told_error e) (fresh ∙ rw (drop-cons s at 0 h) at (bad_left (property_of as_places row (length s)) s at (told_error e) (sym r.says)))

          pub seeking_ahead : {k : ℕ} {v : Value} {o : ℕ} → PropertyRead row s at (Ok (k, v, o)) → at < o
          seeking_ahead {k = k} {v = v} {o = o} r = property_ahead row s at (k, told_value v) o r.says

          pub seeking_next : {k : ℕ} {v : Value} {o : ℕ} → PropertyRead row s at (Ok (k, v, o)) → get_or s at 0 < 256 → {b : Bool} → b ≡ not (is_list row k) → {q' : Seek} → SeekOn q i k v q' → Seeking q' (set m (get_or s at 0) b) o
          unfolding sought_in property_of
          seeking_next {k = k} {v = v} {o = o} r u {b = b} d {q' = q'} x =
              let f = rw (drop-cons s at 0 h) at (property_left row s at (k, told_value v) o r.says) in
              let j : k ≡ get_or s at 0 = value_tag (form_at row (get_or s at 0)) (get_or s at 0) (length s) (drop (suc at) s) ((k, told_value v), drop o s) f in
              let l : length (get_or s at 0 ∷ drop (suc at) s) ≤ length s = rw length-drop (omega arith) in
              record {
                σ = met row w.σ (k, told_value v);
                kept = length-set m (get_or s at 0) b ∙ w.kept;
                there = rw (d, j) (met_now row (get_or s at 0) w.σ m (rw w.kept u) w.there t);
                goes =
                    w.goes
                    ∙ rw (drop-cons s at 0 h, chain_next (met row) reads (length s) (once_less row (length s)) w.σ (get_or s at 0) (drop (suc at) s) ((k, told_value v), drop o s) l (fresh ∙ f))
                    (on (chain_fit (met row) reads (met row w.σ (k, told_value v)) (drop o s)));
                formed = x.formed (form_at row) r.typed w.formed;
              }
            where
              on : (a : Fit (List (PropOf Span))) → (or_no_item (a >>= λ ps. got ((k, told_value v) ∷ ps)) >>= λ ps. sought q (all_of i ps)) ≡ (or_no_item a >>= λ ps. sought q' (all_of i ps))
              on (got ps) = sym (x.says ps)
              on (bad c) = refl

-- ---- the block at a place

module _ (row : Row) (i : ℕ) (s : List ℕ) (p : Span) (n : ℕ) where
  pub nth_outside : length s < p.start + p.len → NthRead row i s p n (Left n)
  unfolding values_at again
  nth_outside h = record { says = rw (lt-leb (p.start + p.len) (length s) h); formed = tt }

  pub nth_within : p.start + p.len ≤ length s → (r : Seek) → SeekIn row i (take (p.start + p.len) s) p.start n r → NthRead row i s p n r
  unfolding values_at again sought_in properties_fit
  nth_within h r o =
      let e = rw (length-take-le (p.start + p.len) s h, sym (part_slice s p.len p.start h)) at o.says in
      record { says = e ∙ rw (le-leb (p.start + p.len) (length s) h) (go (properties_fit as_places row (p.start + p.len) (take p.len (drop p.start s)))); formed = o.formed }
    where
      go : (m : Fit (List (PropOf Span))) → (or_no_item m >>= λ ps. nth_of n (all_of i ps)) ≡ ((or_no_item m >>= λ ps. got (all_of i ps)) >>= nth_of n)
      go (got ps) = refl
      go (bad k) = refl

-- ---- the form of a value says which one it is

-- the place of a form among the values
abbrev tag : Form → ℕ
tag u8 = 0
tag u16 = 1
tag u32 = 2
tag number = 3
tag text = 4
tag bytes = 5
tag pair = 6

tag_form : (v : Value) → tag_of the_type v ≡ tag (form_of v)
tag_form (U8 x) = refl
tag_form (U16 x) = refl
tag_form (U32 x) = refl
tag_form (Number x) = refl
tag_form (Text x) = refl
tag_form (Bytes x) = refl
tag_form (Pair x y) = refl

-- of the form f it is none whose place is among the keys ks, if that of f is not
pub not_other : (f : Form) (ks : List ℕ) → T (not (has_key ks (tag f))) → (v : Value) → some f ≡ some (form_of v) → OneOf ks (tag_of the_type v) → ⊥
not_other f ks t v e o =
    let h : f ≡ form_of v = cc in
    miss ks (tag f) t (rw (tag_form v ∙ ap tag (sym h)) at o)

-- 01, table of properties: 38 is a text pair in every row
pub user_form : (w : PropertyRow) → some pair ≡ form_at (table_row w) 38
unfolding publish_row subscribe_row ack_row unsubscribe_row
user_form Publish = refl
user_form Subscribe = refl
user_form Ack = refl
user_form Unsubscribe = refl
