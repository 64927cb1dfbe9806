-- A loop over the properties of a block, one law over the row: how it goes on, and what it comes to. Assumes nothing.
use Rattle.std.specs.Prelude.{Result, Ok, Err}
use mathlib.Core.Path.{◌≡◌, refl, sym, ap, ◌∙◌}
use mathlib.Core.Bool.{Bool, true, false, ◌||◌, cond}
use mathlib.Core.Logic.{◌⊎◌, inl, inr}
use mathlib.Core.Option.{Option, none, some}
use mathlib.Core.List.{List, [], ◌∷◌}
use Prim.Native.Nat.{ℕ, suc, ◌-◌, ◌≤◌, ◌<◌}
use native.Mathlib.Omega.{arith}
use lib.Dec.{eqb}
use lib.ListN.{length, drop, get_or, length-drop, drop_of_length-le}
use lib.Seq.{drop-cons}
use borrow.Author.Tests.{eqb-true, eqb-false, ne_eqb}
use Rattle.grammar.specs.Choice.{is_in, lookup}
use Rattle.grammar.specs.Octets.{Each, nil, ◌&◌}
use Rattle.grammar.specs.Tables.{Form, u8, u16, u32, number, text, bytes, pair, Row, is_list, publish_row, subscribe_row, ack_row, unsubscribe_row, form_at}
use Rattle.grammar.specs.Record.{Val, PropOf, last_of, unless_empty, publish_props, props_of}
use Rattle.grammar.specs.Sentence.{met}
use Rattle.reading.specs.Refusal.{Refusal, nr}
use Rattle.reading.specs.Reader.{Fit, got, bad, ◌>>=◌, hand_fit, run_fit, chain_fit, fold_from, fold_fit}
use Rattle.reading.specs.Read.{value_at, property_of, once_of, properties_fit}
use Rattle.reading.specs.Place.{Span, span_of, as_places, on_got}
use Rattle.reading.proofs.Lists.{lookup_each}
use Rattle.reading.proofs.Reading.{bad_got}
use Rattle.positions.specs.Position.{from_at, next_or}
use Rattle.positions.proofs.Walk.{fold_nil, fold_bad, fold_next}
use Rattle.positions.proofs.Less.{once_less, once_fresh, once_twice}
use Rattle.positions.proofs.Position.{bad_left}
use Rattle.records.specs.AsNumbers.{told_error}
use Rattle.records.specs.declared.error.Error.{Error}
use Rattle.tables.specs.Property.{table_row, other_of}
use Rattle.tables.specs.declared.property.OtherRow.{OtherRow}
use Rattle.tables.specs.declared.property.PropertyRow.{PropertyRow}
use Rattle.tables.specs.declared.property.PropertyRow.TheVariants.{Publish, Subscribe, Ack, Unsubscribe}
use Rattle.property_value.specs.OneProperty.{told_value, form_of, publish_lists, PropertyRead, PropertyPassed}
use Rattle.property_value.proofs.Laws.{value_tag, property_left, property_ahead}
use Rattle.property_value.specs.declared.Value.{Value}
use Rattle.properties.specs.Block.{or_false, said_of, publish_said, props_said, RowRecord, publish_record, props_row, applied, loop_from, filled_at}

-- 01, table of properties: the identifiers of each form
abbrev pub PublishIs : ℕ → Form → Type 0
PublishIs k u8 = k ≡ 1
PublishIs k u16 = k ≡ 35
PublishIs k u32 = k ≡ 2
PublishIs k number = k ≡ 11
PublishIs k text = (k ≡ 8) ⊎ (k ≡ 3)
PublishIs k bytes = k ≡ 9
PublishIs k pair = k ≡ 38

publish_every : Each (λ r. PublishIs r.0 r.1) publish_row.forms
unfolding publish_row
publish_every = refl & refl & refl & inl refl & refl & refl & refl & inr refl & nil

-- neither a reason string nor an identifier
abbrev pub Neither : ℕ → Type 0
Neither k = (eqb k 31 ≡ false) × (eqb k 11 ≡ false)

neither : (k : ℕ) → eqb k 31 ≡ false → eqb k 11 ≡ false → Neither k
neither k a b = (a, b)

-- of every place: 31 has a text and 11 a number, and no other form has either
abbrev pub PlainIs : ℕ → Form → Type 0
PlainIs k u8 = Neither k
PlainIs k u16 = Neither k
PlainIs k u32 = Neither k
PlainIs k number = eqb k 31 ≡ false
PlainIs k text = eqb k 11 ≡ false
PlainIs k bytes = Neither k
PlainIs k pair = Neither k

plain_every : (row : PropertyRow) → Each (λ r. PlainIs r.0 r.1) (table_row row).forms
unfolding publish_row subscribe_row ack_row unsubscribe_row
plain_every Publish = neither 1 refl refl & neither 2 refl refl & neither 35 refl refl & refl & neither 9 refl refl & neither 38 refl refl & refl & refl & nil
plain_every Subscribe = refl & neither 38 refl refl & nil
plain_every Ack = refl & neither 38 refl refl & nil
plain_every Unsubscribe = neither 38 refl refl & nil

module _ (k : ℕ) {v v' : Value} (e : v ≡ v') where
  is : (Q : ℕ → Form → Type 0) (row : Row) → Each (λ r. Q r.0 r.1) row.forms → form_at row k ≡ some (form_of v) → Q k (form_of v')
  is Q row a h = rw e at (lookup_each (λ r. Q r.0 r.1) a k (form_of v) h)

  pub publish_is : form_at publish_row k ≡ some (form_of v) → PublishIs k (form_of v')
  publish_is = is PublishIs publish_row publish_every

  pub plain_is : (row : PropertyRow) → form_at (table_row row) k ≡ some (form_of v) → PlainIs k (form_of v')
  plain_is row = is PlainIs (table_row row) (plain_every row)

-- ---- the properties one by one are the properties at once

-- 02, P9: a property of the row r more, and a single-valued one is there
abbrev Seen : (w : RowRecord) → ℕ × Form → Type 0
Seen w r = (o : w.Props) (v : Val Span) (i : ℕ) → w.has (applied w o (r.0, v)) i ≡ cond (is_list w.row r.0) (w.has o i) (eqb i r.0 || w.has o i)

-- `more` goes property by property, and `made` is it from none on; `has` says what is there
pub record Lawful (w : RowRecord) : Type 0 where
  pub nil : (o : w.Props) → w.more o [] ≡ o
  pub cons : (o : w.Props) (a : PropOf Span) (ps : List (PropOf Span)) → w.more (applied w o a) ps ≡ w.more o (a ∷ ps)
  pub whole : (p : Span) (ps : List (PropOf Span)) → w.more (w.made p []) ps ≡ w.made p ps
  pub start : (p : Span) (i : ℕ) → w.has (w.made p []) i ≡ false
  pub seen : Each (Seen w) w.row.forms

-- no entry says true
said_none : (i : ℕ) (l : List (ℕ × Bool)) → Each (λ (e : ℕ × Bool). e.1 ≡ false) l → said_of l i ≡ false
said_none i [] a = refl
said_none i (x ∷ l) (e & a) = go (eqb x.0 i) (said_none i l a)
  where
    go : (t : Bool) → said_of l i ≡ false → or_false (cond t (some x.1) (lookup l i)) ≡ false
    go true h = e
    go false h = h

-- entry k says true now, and the others what they said
abbrev set_to : ℕ → List (ℕ × Bool) → List (ℕ × Bool)
set_to k [] = []
set_to k (x ∷ l) = (x.0, eqb x.0 k || x.1) ∷ set_to k l

-- an identifier other than k keeps what is said of it
said_other : (k i : ℕ) → (i ≡ k → ⊥) → (l : List (ℕ × Bool)) → said_of (set_to k l) i ≡ said_of l i
said_other k i n [] = refl
said_other k i n (x ∷ l) = go (eqb x.0 i) refl (said_other k i n l)
  where
    go : (t : Bool) → eqb x.0 i ≡ t → said_of (set_to k l) i ≡ said_of l i → or_false (cond t (some (eqb x.0 k || x.1)) (lookup (set_to k l) i)) ≡ or_false (cond t (some x.1) (lookup l i))
    go true e h = let j : x.0 ≡ i = eqb-true x.0 i e in rw (ne_eqb x.0 k (λ q. n (sym j ∙ q)))
    go false e h = h

-- of k it is true
said_set : (k i : ℕ) (l : List (ℕ × Bool)) → said_of (set_to k l) k ≡ true → said_of (set_to k l) i ≡ (eqb i k || said_of l i)
said_set k i l t = go (eqb i k) refl
  where
    go : (b : Bool) → eqb i k ≡ b → said_of (set_to k l) i ≡ (b || said_of l i)
    go true e = ap (said_of (set_to k l)) (eqb-true i k e) ∙ t
    go false e = said_other k i (eqb-false i k e) l

pub publish_lawful : Lawful publish_record
unfolding publish_props last_of publish_row
publish_lawful = record {
  nil = λ o. refl;
  cons = λ o a ps. refl;
  whole = λ p ps. refl;
  start = λ p i. said_none i _ (refl & refl & refl & refl & refl & refl & nil);
  seen = (λ o v i. said_set 1 i (publish_said o) refl) & (λ o v i. said_set 2 i (publish_said o) refl) & (λ o v i. said_set 35 i (publish_said o) refl) & (λ o v i. said_set 8 i (publish_said o) refl) & (λ o v i. said_set 9 i (publish_said o) refl) & (λ o v i. refl) & (λ o v i. refl) & (λ o v i. said_set 3 i (publish_said o) refl) & nil;
}

props_seen : (row : OtherRow) → Each (Seen (props_row (table_row (other_of row)))) (table_row (other_of row)).forms
unfolding subscribe_row ack_row unsubscribe_row last_of
props_seen OtherRow.Subscribe = (λ o v i. said_set 11 i (props_said o) refl) & (λ o v i. refl) & nil
props_seen OtherRow.Ack = (λ o v i. said_set 31 i (props_said o) refl) & (λ o v i. refl) & nil
props_seen OtherRow.Unsubscribe = (λ o v i. refl) & nil

pub props_lawful : (row : OtherRow) → Lawful (props_row (table_row (other_of row)))
unfolding props_of last_of
props_lawful row = record {
  nil = λ o. refl;
  cons = λ o a ps. refl;
  whole = λ p ps. refl;
  start = λ p i. said_none i _ (refl & refl & nil);
  seen = props_seen row;
}

-- 01: "L = 0 means absent"
abbrev pub block_as : (w : RowRecord) → List (PropOf Span) → List ℕ → ℕ → Option w.Props
block_as w ps b end = unless_empty (w.made (span_of b end)) ps

-- a loop of w on what is left; the end of its room is `end`
abbrev pub loop_on : (w : RowRecord) → ℕ → w.Props → List ℕ → List ℕ → Fit w.Props
loop_on w end o σ l = fold_fit (met w.row) (once_of as_places w.row end) (applied w) o σ l

module _ (w : RowRecord) (W : Lawful w) where
  fold_more : (o : w.Props) (ps : List (PropOf Span)) → fold_from (applied w) o ps ≡ w.more o ps
  fold_more o [] = sym (W.nil o)
  fold_more o (a ∷ ps) = fold_more (applied w o a) ps ∙ W.cons o a ps

  fold_made : (p : Span) (ps : List (PropOf Span)) → fold_from (applied w) (w.made p []) ps ≡ w.made p ps
  fold_made p ps = fold_more (w.made p []) ps ∙ W.whole p ps

  pub block_none : (end : ℕ) → hand_fit (block_as w) (properties_fit as_places w.row) end [] ≡ got none
  unfolding hand_fit properties_fit chain_fit run_fit
  block_none end = refl

  -- a block of at least one byte has a property
  pub block_some : (end : ℕ) (b : List ℕ) → 0 < length b → hand_fit (block_as w) (properties_fit as_places w.row) end b ≡ on_got some (loop_on w end (w.made (span_of b end) []) [] b)
  unfolding hand_fit properties_fit fold_fit chain_fit run_fit
  block_some end [] h = absurd (omega arith)
  block_some end (x ∷ b) h = first (once_of as_places w.row end [] (x ∷ b))
    where
      p : Span
      p = span_of (x ∷ b) end

      more : Fit (PropOf Span × List ℕ) → Fit (List (PropOf Span))
      more m = m >>= λ z. run_fit (met w.row) (once_of as_places w.row end) (met w.row [] z.0) b z.1 >>= λ vs. got (z.0 ∷ vs)

      rest : (a : PropOf Span) (m : Fit (List (PropOf Span)))
          → ((m >>= λ vs. got (a ∷ vs)) >>= λ vs. got (unless_empty (w.made p) vs)) ≡ on_got some ((m >>= λ vs. got (a ∷ vs)) >>= λ vs. got (fold_from (applied w) (w.made p []) vs))
      rest a (got vs) = ap (λ (o : w.Props). got (some o)) (sym (fold_made p (a ∷ vs)))
      rest a (bad k) = refl

      first : (m : Fit (PropOf Span × List ℕ)) → (more m >>= λ vs. got (unless_empty (w.made p) vs)) ≡ on_got some (more m >>= λ vs. got (fold_from (applied w) (w.made p []) vs))
      first (got z) = rest z.0 (run_fit (met w.row) (once_of as_places w.row end) (met w.row [] z.0) b z.1)
      first (bad k) = refl

-- ---- a property of a list leaves the record of a Publish as it is

-- row Publish has k with the form f, and no single value of its record is of k
abbrev Listed : ℕ → Form → Type 0
Listed k f = (form_at publish_row k ≡ some f) × ((o : publish_record.Props) (v : Val Span) → applied publish_record o (k, v) ≡ o) × ((o : publish_record.Props) → publish_record.has o k ≡ false) × (is_list publish_row k ≡ true)

publish_lists_lem : Each (λ r. Listed r.0 r.1) publish_lists.forms
unfolding publish_row
publish_lists_lem = (refl, λ o v. refl, λ o. refl, refl) & (refl, λ o v. refl, λ o. refl, refl) & nil

-- what is read as a property of a list is the same property of the row, is not there, and may come again
abbrev Same : ℕ → ℕ → List ℕ → PropOf Span → Type 0
Same end i l a =
    (property_of as_places publish_lists end (i ∷ l) ≡ property_of as_places publish_row end (i ∷ l))
    × ((o : publish_record.Props) → applied publish_record o a ≡ o)
    × ((o : publish_record.Props) → publish_record.has o i ≡ false)
    × ((σ : List ℕ) → met publish_row σ a ≡ σ)

same : (end i : ℕ) (l : List ℕ) (y : PropOf Span × List ℕ) → property_of as_places publish_lists end (i ∷ l) ≡ got y → Same end i l y.0
unfolding property_of value_at
same end i l y e = go (form_at publish_lists i) refl e
  where
    go : (f : Option Form) → form_at publish_lists i ≡ f → value_at as_places f i end l ≡ got y → Same end i l y.0
    go none j h = absurd (bad_got h)
    go (some f) j h =
        let (has, still, not, list) = lookup_each (λ r. Listed r.0 r.1) publish_lists_lem i f j in
        let k : y.0.0 ≡ i = value_tag (some f) i end l y h in
        (rw (j, has), λ o. rw k (still o y.0.1), not, λ σ. rw (k, list))

-- ---- how the loop goes on

-- the property at an index
abbrev pub property_here : RowRecord → List ℕ → ℕ → Fit (PropOf Span × ℕ)
property_here w s at = from_at (property_of as_places w.row (length s)) s at

module _ (w : RowRecord) (s : List ℕ) (at : ℕ) (h : at < length s) (σ : List ℕ) where
  -- the identifier at the index was not met
  module _ (n : is_in (get_or s at 0) σ ≡ false) where
    pub loop_next : (a : PropOf Span) (m : ℕ) → got (a, m) ≡ property_here w s at → (o : w.Props) → loop_from w o σ s at ≡ loop_from w (applied w o a) (met w.row σ a) s m
    unfolding loop_from
    loop_next a m e o =
        ap (loop_on w (length s) o σ) (drop-cons s at 0 h)
        ∙ (fold_next (met w.row) (once_of as_places w.row (length s)) (length s) (once_less w.row (length s)) (applied w) o σ (get_or s at 0) (drop (suc at) s) (a, drop m s)
        (rw length-drop (omega arith))
        (once_fresh as_places w.row (length s) σ (get_or s at 0) (drop (suc at) s) n ∙ rw (drop-cons s at 0 h) at (property_left w.row s at a m e)))

    pub loop_bad : (o : w.Props) (k : Refusal) → bad k ≡ property_here w s at → loop_from w o σ s at ≡ bad k
    unfolding loop_from
    loop_bad o k e =
        ap (loop_on w (length s) o σ) (drop-cons s at 0 h)
        ∙ (fold_bad (met w.row) (once_of as_places w.row (length s)) (length s) (once_less w.row (length s)) (applied w) o σ (get_or s at 0) (drop (suc at) s) k
        (once_fresh as_places w.row (length s) σ (get_or s at 0) (drop (suc at) s) n ∙ rw (drop-cons s at 0 h) at (bad_left (property_of as_places w.row (length s)) s at k (sym e))))

  -- it was met
  pub loop_twice : is_in (get_or s at 0) σ ≡ true → (o : w.Props) → loop_from w o σ s at ≡ bad (nr 22 (get_or s at 0 ∷ []))
  unfolding loop_from
  loop_twice n o =
      ap (loop_on w (length s) o σ) (drop-cons s at 0 h)
      ∙ (fold_bad (met w.row) (once_of as_places w.row (length s)) (length s) (once_less w.row (length s)) (applied w) o σ (get_or s at 0) (drop (suc at) s) (nr 22 (get_or s at 0 ∷ []))
      (once_twice as_places w.row (length s) σ (get_or s at 0) (drop (suc at) s) n))

pub loop_end : (w : RowRecord) (o : w.Props) (σ s : List ℕ) (at : ℕ) → length s ≤ at → loop_from w o σ s at ≡ got o
unfolding loop_from
loop_end w o σ s at h =
    ap (loop_on w (length s) o σ) (drop_of_length-le s h)
    ∙ (fold_nil (met w.row) (once_of as_places w.row (length s)) (length s) (once_less w.row (length s)) (applied w) o σ)

-- what a loop keeps: σ were met and are there, and the rest of it decides the whole
pub record Filling (w : RowRecord) (s : List ℕ) (whole : Fit w.Props) (o : w.Props) (at : ℕ) : Type 0 where
  pub σ : List ℕ
  pub there : (i : ℕ) → is_in i σ ≡ w.has o i
  pub rest : whole ≡ loop_from w o σ s at

-- the invariant of a loop that keeps p, of which `told` tells the properties: p₀ and at₀ are those before the loop
abbrev pub FillingBy : (w : RowRecord) {A : Type 0} → (A → w.Props) → List ℕ → A → ℕ → A → ℕ → Type 0
FillingBy w told s p₀ at₀ p at = Filling w s (loop_from w (told p₀) [] s at₀) (told p) at

-- and its measure: what is left of the slice
abbrev pub left_from : {A : Type 0} → List ℕ → A → ℕ → A → ℕ → ℕ
left_from s p₀ at₀ p at = length s - at

pub filling_start : {w : RowRecord} → Lawful w → (p : Span) (s : List ℕ) (o : w.Props) (at : ℕ) → o ≡ w.made p [] → Filling w s (loop_from w o [] s at) o at
filling_start {w = w} W p s o at e = record { σ = []; there = λ i. sym (ap (λ (u : w.Props). w.has u i) e ∙ W.start p i); rest = refl }

module _ {w : RowRecord} {s : List ℕ} {whole : Fit w.Props} {o : w.Props} {at : ℕ} (f : Filling w s whole o at) (h : at < length s) where
  -- 02, P9: the identifier at the index is there
  pub filling_twice : w.has o (get_or s at 0) ≡ true → whole ≡ bad (nr 22 (get_or s at 0 ∷ []))
  filling_twice n = f.rest ∙ loop_twice w s at h f.σ (f.there (get_or s at 0) ∙ n) o

  -- it is not
  module _ (n : w.has o (get_or s at 0) ≡ false) where
    pub filling_next : Lawful w → {k m : ℕ} {v : Value} {r : Result (ℕ × Value × ℕ) Error} {o' : w.Props} → PropertyRead w.row s at r → r ≡ Ok (k, v, m) → o' ≡ applied w o (k, told_value v) → Filling w s whole o' m
    filling_next W {k = k} {m = m} {v = v} {o' = o'} P e i = record {
      σ = met w.row f.σ (k, told_value v);
      there = λ j. now j (is_list w.row k) ∙ sym (lookup_each (Seen w) W.seen k (form_of v) (rw e at P.typed) o (told_value v) j) ∙ ap (λ (u : w.Props). w.has u j) (sym i);
      rest = f.rest ∙ loop_next w s at h f.σ (f.there (get_or s at 0) ∙ n) (k, told_value v) m (rw e at P.says) o ∙ ap (λ (u : w.Props). loop_from w u (met w.row f.σ (k, told_value v)) s m) (sym i);
    }
      where
        now : (j : ℕ) (t : Bool) → is_in j (cond t f.σ (k ∷ f.σ)) ≡ cond t (w.has o j) (eqb j k || w.has o j)
        now j true = f.there j
        now j false = ap (λ (b : Bool). eqb j k || b) (f.there j)

    filling_bad : (k : Refusal) → bad k ≡ property_here w s at → whole ≡ bad k
    filling_bad k e = f.rest ∙ loop_bad w s at h f.σ (f.there (get_or s at 0) ∙ n) o k e

filling_end : {w : RowRecord} {s : List ℕ} {whole : Fit w.Props} {o : w.Props} {at : ℕ} → Filling w s whole o at → length s ≤ at → whole ≡ got o
filling_end {w = w} {s = s} {o = o} {at = at} f h = f.rest ∙ loop_end w o f.σ s at h

-- a property takes a byte at least
pub read_ahead : {row : Row} {s : List ℕ} {at k n : ℕ} {v : Value} {r : Result (ℕ × Value × ℕ) Error} → PropertyRead row s at r → r ≡ Ok (k, v, n) → at < n
read_ahead {row = row} {s = s} {at = at} {k = k} {n = n} {v = v} P e = property_ahead row s at (k, told_value v) n (rw e at P.says)

-- a property of a list is passed over
module _ {s : List ℕ} {at r : ℕ} (P : PropertyPassed publish_lists s at r) (ne : r ≡ at → ⊥) where
  abbrev Over : Type 0
  Over = (a : PropOf Span) × (got (a, r) ≡ from_at (property_of as_places publish_lists (length s)) s at)

  over : Over
  over = go (from_at (property_of as_places publish_lists (length s)) s at) refl P.says
    where
      go : (m : Fit (PropOf Span × ℕ)) → from_at (property_of as_places publish_lists (length s)) s at ≡ m → r ≡ next_or at m → Over
      go (got (a, n)) e h = (a, ap (λ (k : ℕ). got (a, k)) h ∙ sym e)
      go (bad k) e h = absurd (ne h)

  pub over_ahead : at < r
  over_ahead = property_ahead publish_lists s at over.0 r over.1

  pub loop_over : at < length s → (o : publish_record.Props) (σ : List ℕ) → is_in (get_or s at 0) σ ≡ publish_record.has o (get_or s at 0) → loop_from publish_record o σ s at ≡ loop_from publish_record o σ s r
  unfolding from_at
  loop_over h o σ t =
      let l = rw (drop-cons s at 0 h) at (property_left publish_lists s at over.0 r over.1) in
      let (e, still, not, again) = same (length s) (get_or s at 0) (drop (suc at) s) (over.0, drop r s) l in
      loop_next publish_record s at h σ (t ∙ not o) over.0 r (over.1 ∙ rw (drop-cons s at 0 h, e)) o ∙ rw (still o, again σ)

module _ {w : RowRecord} {s : List ℕ} {o₀ o : w.Props} {at : ℕ} (p : Span) (i : o₀ ≡ w.made p []) (f : Filling w s (loop_from w o₀ [] s p.start) o at) where
  pub filled_twice : at < length s → w.has o (get_or s at 0) ≡ true → bad (nr 22 (get_or s at 0 ∷ [])) ≡ filled_at w s p
  unfolding filled_at
  filled_twice h n = rw (sym i, filling_twice f h n)

  pub filled_bad : at < length s → w.has o (get_or s at 0) ≡ false → {e : Error} {r : Result (ℕ × Value × ℕ) Error} → PropertyRead w.row s at r → r ≡ Err e → bad (told_error e) ≡ filled_at w s p
  unfolding filled_at
  filled_bad h n {e = e} P j = rw (sym i, filling_bad f h n (told_error e) (rw j at P.says))

  pub filled_end : length s ≤ at → got (some o, length s) ≡ filled_at w s p
  unfolding filled_at
  filled_end h = rw (sym i, filling_end f h)
