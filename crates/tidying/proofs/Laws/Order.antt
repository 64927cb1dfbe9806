-- Properties passed and put by their identifiers: what stands at an index decides what is still to come. Assumes nothing.
use mathlib.Core.Path.{◌≡◌, refl, sym, ap, ◌∙◌, subst}
use mathlib.Core.Bool.{Bool, true, false, cond}
use mathlib.Core.List.{List, [], ◌∷◌, ◌++◌, append-nil, append_assoc}
use Prim.Native.Nat.{ℕ, suc, ◌+◌, ◌-◌, ◌≤◌, ◌<◌, min}
use native.Mathlib.Omega.{arith}
use lib.Dec.{eqb}
use lib.ListN.{length, take, drop, get_or, length-append, length-drop, drop_of_length-le}
use lib.Seq.{sets, take_all, drop-cons, take-suc}
use Rattle.grammar.specs.Octets.{nil, ◌&◌}
use Rattle.grammar.specs.Tables.{Row}
use Rattle.grammar.specs.Sentence.{Prop}
use Rattle.writing.specs.Lists.{flat}
use Rattle.writing.proofs.Each.{each_append, flat_append}
use Rattle.write_properties.specs.Behind.{Behind}
use Rattle.write_properties.proofs.Laws.{next_then}
use Rattle.tables.specs.Property.{table_row}
use Rattle.tables.specs.declared.property.PropertyRow.{PropertyRow}
use Rattle.tables.specs.declared.property.PropertyRow.TheVariants as row_of
use Rattle.tidy_form.specs.Form.{property_bytes}
use Rattle.tidy_form.specs.Order.{of_id, id_bytes, ordered_bytes, ids_of, Runs, none_left, run}
use Rattle.tidy_form.proofs.Order.{runs_ordered, rows_by_ids, exact_bytes}
use Rattle.tidy_form.proofs.Layouts.{Table, publish_table, subscribe_table, ack_table, unsubscribe_table}
use Rattle.tidying.specs.Copied.{Stands, Between, Passed, RunPassed, IdPut, IdsPut, RowPut}
use Rattle.tidying.proofs.Laws.Pass.{many_more, many_none}

-- ---- where something is left, a property stands

module _ (row : Row) (s : List ℕ) where
  pub some_stands : {m : ℕ} (ps : List Prop) → m < length s → Stands row s m ps → (p : Prop) × (qs : List Prop) × (ps ≡ p ∷ qs)
  some_stands {m} [] h w = absurd (omega (arith, h, ap length (many_none w), length-drop m s))
  some_stands (p ∷ qs) h w = (p, qs, refl)

  pub none_stands : {m : ℕ} (ps : List Prop) → length s ≤ m → Stands row s m ps → ps ≡ []
  none_stands [] h w = refl
  none_stands {m} (p ∷ qs) h w =
      let (b, c, e, k, r) = many_more w in
      absurd (omega (arith, h, ap length e, length-append b c, ap length k.bytes, length-drop m s))

  -- what is passed next
  next_stands : {m r : ℕ} (ps : List Prop) → m < length s → Passed row s m r → Stands row s m ps → (p : Prop) × (qs : List Prop) × (ps ≡ p ∷ qs) × Between row s m p qs r
  next_stands {m} {r} ps h w v =
      let (p, qs, e) = some_stands ps h v in
      (p, qs, e, w.says p qs (subst (λ (l : List Prop). Stands row s m l) e v))

  -- ---- a run

  module _ (i at : ℕ) where
    pub run_start : RunPassed row i s at at
    run_start ps w = record { front = []; back = ps; whole = refl; alike = nil; rest = w }

    pub run_next : {m r : ℕ} → RunPassed row i s at m → m < length s → get_or s m 0 ≡ i → Passed row s m r → RunPassed row i s at r
    run_next R h e w ps v =
        let b = R ps v in
        let (p, qs, q, t) = next_stands b.back h w b.rest in
        record {
          front = b.front ++ (p ∷ []);
          back = qs;
          whole = b.whole ∙ ap (λ (l : List Prop). b.front ++ l) q ∙ sym (append_assoc b.front (p ∷ []) qs);
          alike = each_append b.alike ((sym t.head ∙ e) & nil);
          rest = t.rest;
        }

  -- ---- the runs of all identifiers

  module _ (is : List ℕ) (start : ℕ) where
    -- the properties from index i on decide whether all stand in order, if those of the first n identifiers are passed
    pub record Ordering (n i : ℕ) (ps : List Prop) : Type 0 where
      pub back : List Prop
      pub rest : Stands row s i back
      pub goes : Runs (drop n is) back → Runs is ps

    abbrev pub OrderingAll : ℕ → ℕ → Type 0
    OrderingAll n i = (ps : List Prop) → Stands row s start ps → Ordering n i ps

    pub order_start : OrderingAll 0 start
    order_start ps w = record { back = ps; rest = w; goes = λ r. r }

    pub order_next : {n i r : ℕ} → OrderingAll n i → n < length is → RunPassed row (get_or is n 0) s i r → OrderingAll (n + 1) r
    order_next {n} {i} {r} O h w ps v =
        let o = O ps v in
        let b = w o.back o.rest in
        let k : n + 1 ≡ suc n = omega arith in
        record {
          back = b.back;
          rest = b.rest;
          goes = λ z. o.goes (rw (drop-cons is n 0 h, b.whole) (run b.front b.alike (rw k at z)));
        }

    pub order_end : {n i : ℕ} → OrderingAll n i → length is ≤ n → length s ≤ i → (ps : List Prop) → Stands row s start ps → Runs is ps
    order_end {n} {i} O h l ps v =
        let o = O ps v in
        o.goes (rw (drop_of_length-le is h, none_stands o.back l o.rest) none_left)

  -- ---- the properties of an identifier are put

  module _ (i start : ℕ) (before : List ℕ) (at : ℕ) where
    -- `done` is put, and of the properties from index m on those with the identifier are left
    pub record Putting (ps : List Prop) (after : List ℕ) (to m : ℕ) : Type 0 where
      pub put : List ℕ
      pub back : List Prop
      pub behind : Behind before at put after to
      pub rest : Stands row s m back
      pub goes : id_bytes row ps i ≡ put ++ id_bytes row back i

    abbrev pub PuttingAll : List ℕ → ℕ → ℕ → Type 0
    PuttingAll after to m = (ps : List Prop) → Stands row s start ps → Putting ps after to m

    pub put_start : {to : ℕ} → to ≡ min (at + 0) (length before) → PuttingAll before to start
    put_start e ps w = record { put = []; back = ps; behind = record { stores = refl; place = e }; rest = w; goes = refl }

    one_bytes : (t : Bool) (p : Prop) (qs : List Prop) (l : List ℕ) → l ≡ property_bytes row p → flat (property_bytes row) (cond t (p ∷ of_id i qs) (of_id i qs)) ≡ cond t l [] ++ id_bytes row qs i
    one_bytes true p qs l e = rw e
    one_bytes false p qs l e = refl

    pub put_next : {after after' : List ℕ} {to to' m r : ℕ} → PuttingAll after to m → m < length s → Passed row s m r
        → Behind after to (cond (eqb (get_or s m 0) i) (take (r - m) (drop m s)) []) after' to' → PuttingAll after' to' r
    put_next {m = m} {r = r} P h w b ps v =
        let o = P ps v in
        let (p, qs, q, t) = next_stands o.back h w o.rest in
        let e : id_bytes row o.back i ≡ cond (eqb (get_or s m 0) i) (take (r - m) (drop m s)) [] ++ id_bytes row qs i =
        ap (λ (l : List Prop). id_bytes row l i) q ∙ rw t.head (one_bytes (eqb p.0 i) p qs (take (r - m) (drop m s)) t.bytes) in
        record {
          put = o.put ++ cond (eqb (get_or s m 0) i) (take (r - m) (drop m s)) [];
          back = qs;
          behind = next_then o.behind b;
          rest = t.rest;
          goes = o.goes ∙ rw e (sym (append_assoc o.put (cond (eqb (get_or s m 0) i) (take (r - m) (drop m s)) []) (id_bytes row qs i)));
        }

    pub put_end : {after : List ℕ} {to m : ℕ} → PuttingAll after to m → length s ≤ m → IdPut row i s start before at after to
    put_end {after} {to} P h ps v =
        let o = P ps v in
        let e : id_bytes row ps i ≡ o.put = o.goes ∙ rw (none_stands o.back h o.rest, append-nil o.put) in
        rw e o.behind

  -- ---- of all identifiers

  module _ (is : List ℕ) (start : ℕ) (before : List ℕ) where
    abbrev pub RowsPut : List ℕ → ℕ → ℕ → Type 0
    RowsPut after to n = (ps : List Prop) → Stands row s start ps → Behind before start (flat (id_bytes row ps) (take n is)) after to

    pub rows_start : {to : ℕ} → to ≡ min (start + 0) (length before) → RowsPut before to 0
    rows_start e ps w = record { stores = refl; place = e }

    pub rows_next : {after after' : List ℕ} {to to' n : ℕ} → RowsPut after to n → n < length is → IdPut row (get_or is n 0) s start after to after' to' → RowsPut after' to' (n + 1)
    rows_next {n = n} P h w ps v =
        let k : n + 1 ≡ suc n = omega arith in
        let e : flat (id_bytes row ps) (take (suc n) is) ≡ flat (id_bytes row ps) (take n is) ++ id_bytes row ps (get_or is n 0) =
        ap (flat (id_bytes row ps)) (take-suc is n 0 h) ∙ flat_append (id_bytes row ps) (take n is) (get_or is n 0 ∷ []) ∙ rw (append-nil (id_bytes row ps (get_or is n 0))) in
        rw (k, e) (next_then (P ps v) (w ps v))

    pub rows_end : {after : List ℕ} {to n : ℕ} → RowsPut after to n → length is ≤ n → IdsPut row is s start before after
    rows_end {n = n} P h ps v = rw (take_all n is h) at (P ps v).stores

-- ---- the order of the row

-- the table of a row of the code
pub table_of : (w : PropertyRow) → Table (table_row w)
table_of row_of.Publish = publish_table
table_of row_of.Subscribe = subscribe_table
table_of row_of.Ack = ack_table
table_of row_of.Unsubscribe = unsubscribe_table

module _ (w : PropertyRow) (is s : List ℕ) (start : ℕ) (before after : List ℕ) (e : is ≡ ids_of (table_row w).forms) where
  -- they stand in order, and are put as they stand
  pub ordered_put : ((ps : List Prop) → Stands (table_row w) s start ps → Runs is ps) → (l : List ℕ) → l ≡ drop start s → after ≡ sets before start l → RowPut (table_row w) s start before after
  ordered_put O l i j ps v =
      let r : ordered_bytes (table_row w) ps ≡ flat (property_bytes (table_row w)) ps = runs_ordered (table_row w) (table_row w).forms (table_of w).distinct (rw e at (O ps v)) in
      j ∙ ap (sets before start) (i ∙ exact_bytes (table_row w) v ∙ sym r)

  -- they are put in order
  pub rows_put : IdsPut (table_row w) is s start before after → RowPut (table_row w) s start before after
  rows_put P ps v = P ps v ∙ ap (sets before start) (ap (flat (id_bytes (table_row w) ps)) e ∙ rows_by_ids (table_row w) ps (table_row w).forms)
