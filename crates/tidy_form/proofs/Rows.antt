-- A row of a set that was read, handed over to be written: it belongs together, can be written, and takes no more bytes than the block
-- that it was read from. Assumes nothing.
use mathlib.Core.Path.{◌≡◌, refl, sym, ap, ◌∙◌, subst}
use mathlib.Core.Bool.{Bool, true, false, cond, false≢true}
use mathlib.Core.Option.{Option, none, some}
use mathlib.Core.List.{List, [], ◌∷◌, map}
use Prim.Native.Nat.{ℕ, ◌+◌, ◌%◌, ◌≤◌}
use native.Mathlib.Omega.{arith}
use lib.Dec.{eqb}
use lib.ListN.{length, length-append}
use lib.Seq.{take-append_seam, drop-append_seam}
use borrow.Author.Tests.{eqb-true}
use Rattle.grammar.specs.Tables.{Form, number, pair, Row, form_at}
use Rattle.grammar.specs.Record.{num, str, duo, last_from, last_of, all_of}
use Rattle.grammar.specs.Sentence.{Value, Prop}
use Rattle.grammar.specs.Octets.{Each, nil, ◌&◌, Octets}
use Rattle.writing.specs.Lists.{flat}
use Rattle.writing.specs.Handed.{Given, one, lent, pairs, several, strings, duos, items}
use Rattle.writing.specs.Size.{given_size}
use Rattle.writing.specs.Order.{word, string_field, given_fields, or_none}
use Rattle.writing.specs.Refuse.{AddsUp, Coherent, NothingGiven, Writable, Fine}
use Rattle.writing.specs.Meant.{numeral_of, string_of}
use Rattle.writing.proofs.Each.{flat_each}
use Rattle.writing.proofs.Values.{Suits, a_number, a_pair}
use Rattle.writing.proofs.Sizes.{weigh, weigh_given}
use Rattle.tidy_form.specs.Tidy.{num_in, lent_in, nums_in, strings_in, run_of}
use Rattle.tidy_form.proofs.Has.{SuitsIn}

-- ---- the values of a row

-- P holds of what is there, if anything is
pub data Perhaps {A : Type 0} (P : A → Type 0) : Option A → Type 0 where
  absent : Perhaps P none
  present : {a : A} → P a → Perhaps P (some a)

module _ (row : Row) (i : ℕ) (f : Form) (e : form_at row i ≡ some f) where
  of_row : (p : Prop) → SuitsIn row p → eqb p.0 i ≡ true → Suits f p.1
  of_row p (f', (e', s)) q =
      let j : p.0 ≡ i = eqb-true p.0 i q in
      let m : f' ≡ f = cc in
      subst (λ (c : Form). Suits c p.1) m s

  last_from_lem : {o : Option Value} → Perhaps (Suits f) o → {ps : List Prop} → Each (SuitsIn row) ps → Perhaps (Suits f) (last_from o i ps)
  last_from_lem {o = o} h nil = h
  last_from_lem {o = o} h (◌&◌ {a = p} s ss) = last_from_lem {o = cond (eqb p.0 i) (some p.1) o} (go (eqb p.0 i) refl) ss
    where
      go : (t : Bool) → eqb p.0 i ≡ t → Perhaps (Suits f) (cond t (some p.1) o)
      go true q = present (of_row p s q)
      go false q = h

  pub last_suits : {ps : List Prop} → Each (SuitsIn row) ps → Perhaps (Suits f) (last_of i ps)
  unfolding last_of
  last_suits ss = last_from_lem absent ss

  pub all_suits : {ps : List Prop} → Each (SuitsIn row) ps → Each (Suits f) (all_of i ps)
  unfolding all_of
  all_suits nil = nil
  all_suits (◌&◌ {a = p} {l = ps} s ss) = go (all_suits ss) (eqb p.0 i) refl
    where
      go : Each (Suits f) (all_of i ps) → (t : Bool) → eqb p.0 i ≡ t → Each (Suits f) (cond t (p.1 ∷ all_of i ps) (all_of i ps))
      go r true q = of_row p s q & r
      go r false q = r

-- what is not in the row does not stand in the block
pub last_absent : (row : Row) (i : ℕ) → form_at row i ≡ none → {ps : List Prop} → Each (SuitsIn row) ps → last_of i ps ≡ none
unfolding last_of
last_absent row i e nil = refl
last_absent row i e (◌&◌ {a = p} {l = ps} s ss) = go (eqb p.0 i) refl (last_absent row i e ss)
  where
    go : (t : Bool) → eqb p.0 i ≡ t → last_from none i ps ≡ none → last_from (cond (eqb p.0 i) (some p.1) none) i ps ≡ none
    go false q h = rw q h
    go true q h =
        let (f, (e', _)) = s in
        let j : p.0 ≡ i = eqb-true p.0 i q in
        let z : none ≡ some f = sym e ∙ ap (form_at row) (sym j) ∙ e' in
        cc

-- ---- values there and back

pub num_back : {f : Form} (P : ℕ → Type 0) → ((v : Value) → Suits f v → (n : ℕ) × (v ≡ num n) × P n) → {o : Option Value} → Perhaps (Suits f) o → Each P (or_none (num_in o)) × (numeral_of (num_in o) ≡ o)
num_back P s absent = (nil, refl)
num_back P s (present {a = v} w) = let (n, e, h) = s v w in rw e (h & nil, refl)

pub str_back : {f : Form} → ((v : Value) → Suits f v → (s : List ℕ) × (v ≡ str s) × Octets s × Writable (string_field f s)) → {o : Option Value} → Perhaps (Suits f) o
    → Octets (lent_in o).bytes × Each Writable (given_fields f (lent (lent_in o))) × (string_of (lent_in o) ≡ o)
str_back s absent = (nil, nil, refl)
str_back s (present {a = v} w) = let (b, e, o, h) = s v w in rw e (o, h & nil, refl)

pub numbers_back : {vs : List Value} → Each (Suits number) vs → Each Fine (nums_in vs) × (map num (nums_in vs) ≡ vs)
numbers_back nil = (nil, refl)
numbers_back (◌&◌ {l = vs} s ss) = go s (numbers_back ss)
  where
    go : {v : Value} → Suits number v → Each Fine (nums_in vs) × (map num (nums_in vs) ≡ vs) → Each Fine (nums_in (v ∷ vs)) × (map num (nums_in (v ∷ vs)) ≡ v ∷ vs)
    go (a_number {n} h) (p, e) = (h & p, ap (λ (l : List Value). num n ∷ l) e)

-- keys and values of pairs, one after the other, are the pairs again
record PairsBack (vs : List Value) : Type 0 where
  octets : Each Octets (strings_in vs)
  sound : Each Writable (map word (strings_in vs))
  even : length (map length (strings_in vs)) % 2 ≡ 0
  back : duos (strings_in vs) ≡ vs

pairs_back : {vs : List Value} → Each (Suits pair) vs → PairsBack vs
pairs_back nil = record { octets = nil; sound = nil; even = refl; back = refl }
pairs_back (◌&◌ {l = vs} s ss) = go s (pairs_back ss)
  where
    go : {v : Value} → Suits pair v → PairsBack vs → PairsBack (v ∷ vs)
    go (a_pair {a} {b} o h o' h') w = record { octets = o & o' & w.octets; sound = h & h' & w.sound; even = let e = w.even in omega arith; back = ap (λ (l : List Value). duo a b ∷ l) w.back }

pub run_back : (ss : List (List ℕ)) → strings (run_of ss) ≡ ss
run_back [] = refl
run_back (s ∷ ss) = rw (take-append_seam s (flat (λ s. s) ss), drop-append_seam s (flat (λ s. s) ss)) (ap (λ (l : List (List ℕ)). s ∷ l) (run_back ss))

pub run_octets : {ss : List (List ℕ)} → Each Octets ss → Octets (run_of ss).bytes
run_octets p = flat_each (λ s. s) p

pub run_adds : (ss : List (List ℕ)) → AddsUp (run_of ss)
run_adds [] = refl
run_adds (s ∷ ss) = rw (length-append s (flat (λ s. s) ss)) (omega (arith, run_adds ss))

pub users_octets : {vs : List Value} → Each (Suits pair) vs → Octets (run_of (strings_in vs)).bytes
users_octets p = run_octets (pairs_back p).octets

pub users_back : {vs : List Value} → Each (Suits pair) vs → duos (strings (run_of (strings_in vs))) ≡ vs
users_back {vs} p = ap duos (run_back (strings_in vs)) ∙ (pairs_back p).back

-- ---- of the values with one identifier, the last is one of all

last_light : (f : Form) (i : ℕ) (o : Option Value) (ps : List Prop) → weigh f (or_none (last_from o i ps)) ≤ weigh f (or_none o) + weigh f (all_of i ps)
unfolding all_of
last_light f i o [] = omega arith
last_light f i o (p ∷ ps) = go (eqb p.0 i) (last_light f i (cond (eqb p.0 i) (some p.1) o) ps)
  where
    go : (t : Bool) → weigh f (or_none (last_from (cond (eqb p.0 i) (some p.1) o) i ps)) ≤ weigh f (or_none (cond t (some p.1) o)) + weigh f (all_of i ps)
        → weigh f (or_none (last_from (cond (eqb p.0 i) (some p.1) o) i ps)) ≤ weigh f (or_none o) + weigh f (cond t (p.1 ∷ all_of i ps) (all_of i ps))
    go true h = omega arith
    go false h = h

last_none : (i : ℕ) (ps : List Prop) (o : Option Value) → last_from o i ps ≡ none → (o ≡ none) × (all_of i ps ≡ [])
unfolding all_of
last_none i [] o e = (e, refl)
last_none i (p ∷ ps) o e = go (eqb p.0 i) (last_none i ps (cond (eqb p.0 i) (some p.1) o) e)
  where
    go : (t : Bool) → (cond t (some p.1) o ≡ none) × (all_of i ps ≡ []) → (o ≡ none) × (cond t (p.1 ∷ all_of i ps) (all_of i ps) ≡ [])
    go true (q, r) = let z : ◌≡◌ {A = ℕ} 0 1 = cc in absurd (omega arith)
    go false h = h

-- ---- a row handed over

-- several may be handed over
abbrev pub many : Given → Bool
many (one m) = false
many (lent l) = false
many (pairs r) = true
many (several ns) = true

pub record RowGiven (i : ℕ) (f : Form) (ps : List Prop) (g : Given) : Type 0 where
  pub sorted : Coherent g
  pub sound : Each Writable (given_fields f g)
  pub light : given_size f g ≤ weigh f (all_of i ps)
  pub whole : items g ≡ [] → all_of i ps ≡ []
  pub empty : ps ≡ [] → NothingGiven g
  pub again : (many g ≡ false → or_none (last_of i ps) ≡ all_of i ps) → items g ≡ all_of i ps

-- a row whose items are the last value
module _ (i : ℕ) (f : Form) (ps : List Prop) (g : Given) (s : Coherent g) (q : items g ≡ or_none (last_of i ps)) where
  last_lighter : given_size f g ≤ weigh f (all_of i ps)
  unfolding last_of
  last_lighter = omega (arith, weigh_given f g s, ap (weigh f) q, last_light f i none ps)

  last_whole : items g ≡ [] → all_of i ps ≡ []
  unfolding last_of
  last_whole e = (last_none i ps none (go (last_of i ps) (sym q ∙ e))).1
    where
      go : (o : Option Value) → or_none o ≡ [] → o ≡ none
      go none e = refl
      go (some v) e = cc

one_items : (m : Option ℕ) → items (one m) ≡ or_none (numeral_of m)
one_items none = refl
one_items (some n) = refl

pub row_one : (i : ℕ) (f : Form) (ps : List Prop) → numeral_of (num_in (last_of i ps)) ≡ last_of i ps → RowGiven i f ps (one (num_in (last_of i ps)))
unfolding last_of
row_one i f ps e =
    let g : Given = one (num_in (last_of i ps)) in
    let q : items g ≡ or_none (last_of i ps) = one_items (num_in (last_of i ps)) ∙ ap or_none e in
    record { sorted = tt; sound = nil; light = last_lighter i f ps g tt q; whole = last_whole i f ps g tt q; empty = λ z. ap (λ (l : List Prop). num_in (last_of i l)) z; again = λ h. q ∙ h refl }

lent_sorted : (o : Option Value) → Coherent (lent (lent_in o))
lent_sorted none e = refl
lent_sorted (some (num n)) e = refl
lent_sorted (some (str s)) e = absurd (false≢true (sym e))
lent_sorted (some (duo a b)) e = refl

lent_items : (o : Option Value) → string_of (lent_in o) ≡ o → items (lent (lent_in o)) ≡ or_none o
lent_items none e = refl
lent_items (some (num n)) e = cc
lent_items (some (str s)) e = refl
lent_items (some (duo a b)) e = cc

pub row_lent : (i : ℕ) (f : Form) (ps : List Prop) → Each Writable (given_fields f (lent (lent_in (last_of i ps)))) → string_of (lent_in (last_of i ps)) ≡ last_of i ps → RowGiven i f ps (lent (lent_in (last_of i ps)))
unfolding last_of
row_lent i f ps w e =
    let g : Given = lent (lent_in (last_of i ps)) in
    let s = lent_sorted (last_of i ps) in
    let q = lent_items (last_of i ps) e in
    record { sorted = s; sound = w; light = last_lighter i f ps g s q; whole = last_whole i f ps g s q; empty = λ z. rw z (refl, refl); again = λ h. q ∙ h refl }

pub row_pairs : (i : ℕ) (ps : List Prop) → Each (Suits pair) (all_of i ps) → RowGiven i pair ps (pairs (run_of (strings_in (all_of i ps))))
unfolding all_of
row_pairs i ps w =
    let g : Given = pairs (run_of (strings_in (all_of i ps))) in
    let b = pairs_back w in
    let s : Coherent g = (run_adds (strings_in (all_of i ps)), b.even) in
    let q : items g ≡ all_of i ps = users_back w in
    record {
      sorted = s;
      sound = rw (run_back (strings_in (all_of i ps))) b.sound;
      light = omega (arith, weigh_given pair g s, ap (weigh pair) q);
      whole = λ e. sym q ∙ e;
      empty = λ z. rw z (refl, refl);
      again = λ h. q;
    }

pub row_several : (i : ℕ) (ps : List Prop) → Each (Suits number) (all_of i ps) → RowGiven i number ps (several (nums_in (all_of i ps)))
unfolding all_of
row_several i ps w =
    let g : Given = several (nums_in (all_of i ps)) in
    let q : items g ≡ all_of i ps = (numbers_back w).1 in
    record { sorted = tt; sound = nil; light = omega (arith, weigh_given number g tt, ap (weigh number) q); whole = λ e. sym q ∙ e; empty = λ z. rw z; again = λ h. q }
