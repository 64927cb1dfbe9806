-- The set of properties that a block says is the one that was handed over. Assumes nothing.
use mathlib.Core.Path.{◌≡◌, refl, ap, ◌∙◌}
use mathlib.Core.Bool.{Bool, true, false, cond}
use mathlib.Core.Option.{Option, none, some}
use mathlib.Core.List.{List, [], ◌∷◌, ◌++◌, map, append-nil}
use Prim.Native.Nat.{ℕ}
use lib.Dec.{eqb}
use Rattle.grammar.specs.Choice.{is_empty}
use Rattle.grammar.specs.Tables.{Form, Forms, Row, publish_row, subscribe_row, ack_row, unsubscribe_row}
use Rattle.grammar.specs.Record.{str, last_from, last_of, all_of, unless_empty, publish_props, props_of}
use Rattle.grammar.specs.Sentence.{Value, Prop, as_list, publish_of, props_if}
use Rattle.writing.specs.Lists.{flat}
use Rattle.writing.specs.Handed.{Lent, Run, PublishHanded, SubscribeHanded, one, lent, pairs, several, Givens, publish_given, subscribe_given, ack_given, unsubscribe_given, items, Entry, prop_of, tag, entries}
use Rattle.writing.specs.Meant.{numeral_of, string_of, publish_set, subscribe_set, ack_set, unsubscribe_set, none_publish, none_ack, none_subscribe, none_unsubscribe}

-- ---- of a block, the last value of a row and all of them, by what is handed over for the row

abbrev last_val : Option Value → List Value → Option Value
last_val o [] = o
last_val o (v ∷ vs) = last_val (some v) vs

abbrev last_row : Option Value → ℕ → Forms → Givens → Option Value
last_row o i [] g = o
last_row o i (r ∷ rs) g = last_row (cond (eqb r.0 i) (last_val o (items (g r.0))) o) i rs g

abbrev all_row : ℕ → Forms → Givens → List Value
all_row i [] g = []
all_row i (r ∷ rs) g = cond (eqb r.0 i) (items (g r.0)) [] ++ all_row i rs g

last_tag : (r : ℕ × Form) (i : ℕ) (t : Bool) → eqb r.0 i ≡ t → (o : Option Value) (vs : List Value) (es : List Entry)
    → last_from o i (map prop_of (tag r vs ++ es)) ≡ last_from (cond t (last_val o vs) o) i (map prop_of es)
last_tag r i true e o [] es = refl
last_tag r i false e o [] es = refl
last_tag r i true e o (v ∷ vs) es =
    ap (λ (p : Bool). last_from (cond p (some v) o) i (map prop_of (tag r vs ++ es))) e ∙ last_tag r i true e (some v) vs es
last_tag r i false e o (v ∷ vs) es =
    ap (λ (p : Bool). last_from (cond p (some v) o) i (map prop_of (tag r vs ++ es))) e ∙ last_tag r i false e o vs es

last_rows : (i : ℕ) (g : Givens) (o : Option Value) (rs : Forms) → last_from o i (map prop_of (flat (λ r. tag r (items (g r.0))) rs)) ≡ last_row o i rs g
last_rows i g o [] = refl
last_rows i g o (r ∷ rs) =
    last_tag r i (eqb r.0 i) refl o (items (g r.0)) (flat (λ r. tag r (items (g r.0))) rs)
    ∙ last_rows i g (cond (eqb r.0 i) (last_val o (items (g r.0))) o) rs

last_entries : (i : ℕ) (row : Row) (g : Givens) → last_of i (map prop_of (entries row g)) ≡ last_row none i row.forms g
unfolding last_of entries
last_entries i row g = last_rows i g none row.forms

all_tag : (r : ℕ × Form) (i : ℕ) (t : Bool) → eqb r.0 i ≡ t → (vs : List Value) (es : List Entry)
    → all_of i (map prop_of (tag r vs ++ es)) ≡ cond t vs [] ++ all_of i (map prop_of es)
unfolding all_of
all_tag r i true e [] es = refl
all_tag r i false e [] es = refl
all_tag r i true e (v ∷ vs) es = rw e (ap (λ (l : List Value). v ∷ l) (all_tag r i true e vs es))
all_tag r i false e (v ∷ vs) es = rw e (all_tag r i false e vs es)

all_rows_lem : (i : ℕ) (g : Givens) (rs : Forms) → all_of i (map prop_of (flat (λ r. tag r (items (g r.0))) rs)) ≡ all_row i rs g
unfolding all_of
all_rows_lem i g [] = refl
all_rows_lem i g (r ∷ rs) =
    all_tag r i (eqb r.0 i) refl (items (g r.0)) (flat (λ r. tag r (items (g r.0))) rs)
    ∙ ap (λ (l : List Value). cond (eqb r.0 i) (items (g r.0)) [] ++ l) (all_rows_lem i g rs)

all_entries : (i : ℕ) (row : Row) (g : Givens) → all_of i (map prop_of (entries row g)) ≡ all_row i row.forms g
unfolding entries
all_entries i row g = all_rows_lem i g row.forms

-- ---- a row with one value at most

last_one : (o : Option ℕ) → last_val none (items (one o)) ≡ numeral_of o
last_one none = refl
last_one (some n) = refl

last_lent : (l : Lent) → last_val none (items (lent l)) ≡ string_of l
last_lent l = go l.on
  where
    go : (t : Bool) → last_val none (cond t (str l.bytes ∷ []) []) ≡ cond t (some (str l.bytes)) none
    go true = refl
    go false = refl

-- ---- each place

publish_set_lem : (h : PublishHanded) → publish_props (List ℕ) List as_list (map prop_of (entries publish_row (publish_given h))) ≡ publish_set h
unfolding publish_props publish_row publish_given
publish_set_lem h = rw (
  last 1 ∙ last_one h.format,
  last 2 ∙ last_one h.expiry,
  last 35 ∙ last_one h.alias,
  last 8 ∙ last_lent h.response,
  last 9 ∙ last_lent h.correlation,
  every 38 ∙ append-nil (items (pairs h.user)),
  every 11 ∙ append-nil (items (several h.subscriptions)),
  last 3 ∙ last_lent h.content,
)
  where
    last : (i : ℕ) → last_of i (map prop_of (entries publish_row (publish_given h))) ≡ last_row none i publish_row.forms (publish_given h)
    last i = last_entries i publish_row (publish_given h)

    every : (i : ℕ) → all_of i (map prop_of (entries publish_row (publish_given h))) ≡ all_row i publish_row.forms (publish_given h)
    every i = all_entries i publish_row (publish_given h)

ack_set_lem : (t : Lent) (u : Run) → props_of (List ℕ) List as_list (map prop_of (entries ack_row (ack_given t u))) ≡ ack_set t u
unfolding props_of ack_row ack_given
ack_set_lem t u = rw (
  last_entries 31 ack_row (ack_given t u) ∙ last_lent t,
  last_entries 11 ack_row (ack_given t u),
  all_entries 38 ack_row (ack_given t u) ∙ append-nil (items (pairs u)),
)

unsubscribe_set_lem : (u : Run) → props_of (List ℕ) List as_list (map prop_of (entries unsubscribe_row (unsubscribe_given u))) ≡ unsubscribe_set u
unfolding props_of unsubscribe_row unsubscribe_given
unsubscribe_set_lem u = rw (last_entries 31 unsubscribe_row (unsubscribe_given u), last_entries 11 unsubscribe_row (unsubscribe_given u), all_entries 38 unsubscribe_row (unsubscribe_given u) ∙ append-nil (items (pairs u)))

subscribe_set_lem : (h : SubscribeHanded) → props_of (List ℕ) List as_list (map prop_of (entries subscribe_row (subscribe_given h))) ≡ subscribe_set h
unfolding props_of subscribe_row subscribe_given
subscribe_set_lem h = rw (
  last_entries 31 subscribe_row (subscribe_given h),
  last_entries 11 subscribe_row (subscribe_given h) ∙ last_one h.subscription,
  all_entries 38 subscribe_row (subscribe_given h) ∙ append-nil (items (pairs h.user)),
)

-- a set that has nothing in it is said to be absent
unless_empty_lem : {A : Type 0} (f : List Prop → A) (es : List Entry) (a : A) → f (map prop_of es) ≡ a → unless_empty f (map prop_of es) ≡ cond (is_empty es) none (some a)
unless_empty_lem f [] a e = refl
unless_empty_lem f (x ∷ es) a e = ap some e

pub publish_says : (h : PublishHanded) → publish_of (map prop_of (entries publish_row (publish_given h))) ≡ cond (none_publish h) none (some (publish_set h))
publish_says h = unless_empty_lem (publish_props (List ℕ) List as_list) (entries publish_row (publish_given h)) (publish_set h) (publish_set_lem h)

pub ack_says : (t : Lent) (u : Run) → props_if (map prop_of (entries ack_row (ack_given t u))) ≡ cond (none_ack t u) none (some (ack_set t u))
ack_says t u = unless_empty_lem (props_of (List ℕ) List as_list) (entries ack_row (ack_given t u)) (ack_set t u) (ack_set_lem t u)

pub unsubscribe_says : (u : Run) → props_if (map prop_of (entries unsubscribe_row (unsubscribe_given u))) ≡ cond (none_unsubscribe u) none (some (unsubscribe_set u))
unsubscribe_says u = unless_empty_lem (props_of (List ℕ) List as_list) (entries unsubscribe_row (unsubscribe_given u)) (unsubscribe_set u) (unsubscribe_set_lem u)

pub subscribe_says : (h : SubscribeHanded) → props_if (map prop_of (entries subscribe_row (subscribe_given h))) ≡ cond (none_subscribe h) none (some (subscribe_set h))
subscribe_says h = unless_empty_lem (props_of (List ℕ) List as_list) (entries subscribe_row (subscribe_given h)) (subscribe_set h) (subscribe_set_lem h)
