-- What is written of a block that was read is its own properties in the order of the row: no value is lost, none has another spelling, and so
-- the bytes are as many. Assumes nothing.
use mathlib.Core.Path.{◌≡◌, refl, sym, ap, ◌∙◌}
use mathlib.Core.Bool.{Bool, true, false, not, cond}
use mathlib.Core.Option.{Option, none, some}
use mathlib.Core.List.{List, [], ◌∷◌, ◌++◌, append-nil}
use Prim.Native.Nat.{ℕ, ◌+◌, ◌≤◌}
use native.Mathlib.Omega.{arith}
use lib.Dec.{eqb}
use lib.ListN.{length, length-append}
use borrow.Author.Tests.{eqb-true, eqb-false, eq-eqb, ne_eqb, not-true}
use Rattle.grammar.specs.Choice.{lookup}
use Rattle.grammar.specs.Gram.{done, more, Many}
use Rattle.grammar.specs.Octets.{Each, nil, ◌&◌, Octets}
use Rattle.grammar.specs.Tables.{Form, Forms, Row, is_list, form_at}
use Rattle.grammar.specs.Record.{last_from, last_of, all_of}
use Rattle.grammar.specs.Sentence.{Value, Prop, Property, none_twice}
use Rattle.grammar.proofs.Once.{none_twice_lem}
use Rattle.writing.specs.Lists.{flat}
use Rattle.writing.specs.Handed.{Givens, items, tag}
use Rattle.writing.specs.Spell.{value, entry, row_bytes, props_bytes}
use Rattle.writing.specs.Order.{or_none}
use Rattle.writing.proofs.Each.{each_imp, each_both, each_left, each_right, flat_append}
use Rattle.writing.proofs.Tests.{and_left, and_right}
use Rattle.writing.proofs.Once.{property_once}
use Rattle.tidy_form.specs.Form.{value_in, property_bytes}
use Rattle.tidy_form.specs.Order.{of_id, id_bytes, rows_bytes, ordered_bytes, Exact, ids_of, Runs, none_left, run}
use Rattle.tidy_form.proofs.Has.{SuitsIn}
use Rattle.tidy_form.proofs.Rows.{many, RowGiven}
use Rattle.tidy_form.proofs.Blocks.{others, Distinct}

-- ---- a value that stands once is the last

-- of one identifier at most one value stands
last_one : (i : ℕ) (ps : List Prop) (o : Option Value) → length (or_none o) + length (all_of i ps) ≤ 1 → or_none (last_from o i ps) ≡ or_none o ++ all_of i ps
unfolding all_of
last_one i [] o h = sym (append-nil (or_none o))
last_one i (p ∷ ps) o h = go (last_one i ps) (eqb p.0 i) refl h
  where
    none_there : (o : Option Value) → length (or_none o) ≤ 0 → o ≡ none
    none_there none h = refl
    none_there (some v) h = absurd (omega arith)

    go : ((o : Option Value) → length (or_none o) + length (all_of i ps) ≤ 1 → or_none (last_from o i ps) ≡ or_none o ++ all_of i ps)
        → (t : Bool) → eqb p.0 i ≡ t → length (or_none o) + length (cond t (p.1 ∷ all_of i ps) (all_of i ps)) ≤ 1
        → or_none (last_from (cond (eqb p.0 i) (some p.1) o) i ps) ≡ or_none o ++ cond t (p.1 ∷ all_of i ps) (all_of i ps)
    go ih true e k =
        let z : o ≡ none = none_there o (omega arith) in
        rw (e, z) (ih (some p.1) (omega arith))
    go ih false e k = rw e (ih o k)

-- 02, P9: of a single-valued property the last value is all of them
pub single_last : (row : Row) (i : ℕ) (ps : List Prop) → none_twice row ps ≡ true → is_list row i ≡ false → or_none (last_of i ps) ≡ all_of i ps
unfolding last_of
single_last row i ps h s = last_one i ps none (omega (arith, none_twice_lem row ps h i s))

-- ---- the bytes of a row

row_bytes_lem : (row : Row) (i : ℕ) (f : Form) → form_at row i ≡ some f → (ps : List Prop) → flat entry (tag (i, f) (all_of i ps)) ≡ id_bytes row ps i
unfolding all_of
row_bytes_lem row i f e [] = refl
row_bytes_lem row i f e (p ∷ ps) = go (eqb p.0 i) refl (row_bytes_lem row i f e ps)
  where
    go : (t : Bool) → eqb p.0 i ≡ t → flat entry (tag (i, f) (all_of i ps)) ≡ id_bytes row ps i
        → flat entry (tag (i, f) (cond t (p.1 ∷ all_of i ps) (all_of i ps))) ≡ flat (property_bytes row) (cond t (p ∷ of_id i ps) (of_id i ps))
    go true q ih =
        let j : p.0 ≡ i = eqb-true p.0 i q in
        rw (j, e) (ap (λ (l : List ℕ). i ∷ (value f p.1 ++ l)) ih)
    go false q ih = ih

rows_bytes_lem : (row : Row) (g : Givens) (ps : List Prop) {rs : Forms} → Each (λ r. items (g r.0) ≡ all_of r.0 ps) rs → Each (λ r. form_at row r.0 ≡ some r.1) rs
    → flat (λ r. row_bytes r (g r.0)) rs ≡ rows_bytes row ps rs
rows_bytes_lem row g ps nil nil = refl
rows_bytes_lem row g ps (◌&◌ {a = r} {l = rs} q qs) (f & fs) =
    rw (q, row_bytes_lem row r.0 r.1 f ps) (ap (λ (l : List ℕ). id_bytes row ps r.0 ++ l) (rows_bytes_lem row g ps qs fs))

-- a block handed over: of each row that is no list one value is handed over at most
module _ (row : Row) (g : Givens) (ps : List Prop) (rows : Each (λ r. RowGiven r.0 r.1 ps (g r.0)) row.forms) where
  -- 02, P14: what is written of the block is its properties in the order of the row
  pub props_ordered : none_twice row ps ≡ true → Each (λ r. many (g r.0) ≡ false → is_list row r.0 ≡ false) row.forms → Each (λ r. form_at row r.0 ≡ some r.1) row.forms
      → props_bytes row g ≡ ordered_bytes row ps
  unfolding props_bytes
  props_ordered h ls fs = rows_bytes_lem row g ps (each_imp (λ r w. w.0.again (λ e. single_last row r.0 ps h (w.1 e))) (each_both rows ls)) fs

-- ---- as many bytes

module _ (row : Row) (p : Prop) (ps : List Prop) where
  -- a property bears on no row but its own
  other_bytes : (rs : Forms) → others p.0 rs ≡ true → rows_bytes row (p ∷ ps) rs ≡ rows_bytes row ps rs
  other_bytes [] d = refl
  other_bytes (r ∷ rs) d =
      rw (not-true (eqb p.0 r.0) (and_left (not (eqb p.0 r.0)) (others p.0 rs) d), other_bytes rs (and_right (not (eqb p.0 r.0)) (others p.0 rs) d))

  -- in its own it is one more
  own_bytes : (rs : Forms) → Distinct rs → (f : Form) → lookup rs p.0 ≡ some f → length (rows_bytes row (p ∷ ps) rs) ≡ length (property_bytes row p) + length (rows_bytes row ps rs)
  own_bytes [] d f e = let z : ◌≡◌ {A = ℕ} 0 1 = cc in absurd (omega arith)
  own_bytes (r ∷ rs) d f e = go (eqb p.0 r.0) refl (own_bytes rs d.1 f)
    where
      go : (t : Bool) → eqb p.0 r.0 ≡ t → (lookup rs p.0 ≡ some f → length (rows_bytes row (p ∷ ps) rs) ≡ length (property_bytes row p) + length (rows_bytes row ps rs))
          → length (flat (property_bytes row) (cond t (p ∷ of_id r.0 ps) (of_id r.0 ps)) ++ rows_bytes row (p ∷ ps) rs) ≡ length (property_bytes row p) + length (id_bytes row ps r.0 ++ rows_bytes row ps rs)
      go true q ih =
          let i : p.0 ≡ r.0 = eqb-true p.0 r.0 q in
          let o : rows_bytes row (p ∷ ps) rs ≡ rows_bytes row ps rs = other_bytes rs (rw i d.0) in
          omega (
            arith,
            ap length o,
            length-append (property_bytes row p ++ id_bytes row ps r.0) (rows_bytes row (p ∷ ps) rs),
            length-append (property_bytes row p) (id_bytes row ps r.0),
            length-append (id_bytes row ps r.0) (rows_bytes row ps rs),
          )
      go false q ih =
          let m : eqb r.0 p.0 ≡ false = ne_eqb r.0 p.0 (λ i. eqb-false p.0 r.0 q (sym i)) in
          let k : lookup rs p.0 ≡ some f = rw m at e in
          omega (arith, ih k, length-append (id_bytes row ps r.0) (rows_bytes row (p ∷ ps) rs), length-append (id_bytes row ps r.0) (rows_bytes row ps rs))

no_bytes_lem : (row : Row) (rs : Forms) → rows_bytes row [] rs ≡ []
no_bytes_lem row [] = refl
no_bytes_lem row (r ∷ rs) = no_bytes_lem row rs

-- 02, P14: the properties in order are as many bytes
pub ordered_length : (row : Row) → Distinct row.forms → {ps : List Prop} → Each (SuitsIn row) ps → length (ordered_bytes row ps) ≡ length (flat (property_bytes row) ps)
ordered_length row d nil = ap length (no_bytes_lem row row.forms)
ordered_length row d (◌&◌ {a = p} {l = ps} (f, (e, s)) ss) =
    omega (arith, own_bytes row p ps row.forms d f e, ordered_length row d ss, length-append (property_bytes row p) (flat (property_bytes row) ps))

-- ---- in order already

of_append : (i : ℕ) (qs ps : List Prop) → of_id i (qs ++ ps) ≡ of_id i qs ++ of_id i ps
of_append i [] ps = refl
of_append i (q ∷ qs) ps = go (eqb q.0 i) (of_append i qs ps)
  where
    go : (t : Bool) → of_id i (qs ++ ps) ≡ of_id i qs ++ of_id i ps → cond t (q ∷ of_id i (qs ++ ps)) (of_id i (qs ++ ps)) ≡ cond t (q ∷ of_id i qs) (of_id i qs) ++ of_id i ps
    go true e = ap (λ (l : List Prop). q ∷ l) e
    go false e = e

of_own : (i : ℕ) {qs : List Prop} → Each (λ p. p.0 ≡ i) qs → of_id i qs ≡ qs
of_own i nil = refl
of_own i (◌&◌ {a = q} e es) = rw (eq-eqb q.0 i e) (ap (λ (l : List Prop). q ∷ l) (of_own i es))

of_other : (i j : ℕ) → eqb j i ≡ false → {qs : List Prop} → Each (λ p. p.0 ≡ j) qs → of_id i qs ≡ []
of_other i j h nil = refl
of_other i j h (◌&◌ {a = q} e es) = rw (e, h) (of_other i j h es)

-- an identifier of none of the rows stands in none of their runs
of_runs : (i : ℕ) (rs : Forms) {ps : List Prop} → others i rs ≡ true → Runs (ids_of rs) ps → of_id i ps ≡ []
of_runs i [] d none_left = refl
of_runs i (r ∷ rs) d (run qs {ps = ps} es w) =
    let a = not-true (eqb i r.0) (and_left (not (eqb i r.0)) (others i rs) d) in
    let b : eqb r.0 i ≡ false = ne_eqb r.0 i (λ e. eqb-false i r.0 a (sym e)) in
    of_append i qs ps ∙ rw (of_other i r.0 b es) (of_runs i rs (and_right (not (eqb i r.0)) (others i rs) d) w)

-- a run of another identifier in front bears on no row
front_bytes : (row : Row) (j : ℕ) {qs : List Prop} → Each (λ p. p.0 ≡ j) qs → (ps : List Prop) (rs : Forms) → others j rs ≡ true → rows_bytes row (qs ++ ps) rs ≡ rows_bytes row ps rs
front_bytes row j es ps [] d = refl
front_bytes row j {qs} es ps (r ∷ rs) d =
    let a = not-true (eqb j r.0) (and_left (not (eqb j r.0)) (others j rs) d) in
    rw (of_append r.0 qs ps, of_other r.0 j a es, front_bytes row j es ps rs (and_right (not (eqb j r.0)) (others j rs) d))

-- 02, P14: properties that stand in the order of the row are written as they stand
pub runs_ordered : (row : Row) (rs : Forms) {ps : List Prop} → Distinct rs → Runs (ids_of rs) ps → rows_bytes row ps rs ≡ flat (property_bytes row) ps
runs_ordered row [] d none_left = refl
runs_ordered row (r ∷ rs) d (run qs {ps = ps} es w) =
    rw (
      of_append r.0 qs ps,
      of_own r.0 es,
      of_runs r.0 rs d.0 w,
      append-nil qs,
      front_bytes row r.0 es ps rs d.0,
      runs_ordered row rs d.1 w,
      flat_append (property_bytes row) qs ps,
    )

-- the rows by their identifiers
pub rows_by_ids : (row : Row) (ps : List Prop) (rs : Forms) → flat (id_bytes row ps) (ids_of rs) ≡ rows_bytes row ps rs
rows_by_ids row ps [] = refl
rows_by_ids row ps (r ∷ rs) = ap (λ (l : List ℕ). id_bytes row ps r.0 ++ l) (rows_by_ids row ps rs)

-- ---- the bytes that were read are those of the properties

pub property_exact : (row : Row) (p : Prop) (b : List ℕ) → Property row p b → Octets b → Exact row p b
property_exact row p b k o = let (f, e, i) = property_once k o in record { spelt = k; bytes = i ∙ ap (λ o. p.0 ∷ value_in o p.1) (sym e) }

pub properties_exact : (row : Row) {ps : List Prop} {b : List ℕ} → Many (Property row) ps b → Octets b → Many (Exact row) ps b
properties_exact row done o = done
properties_exact row (more {a = p} {b = b} {c = c} k m) o = more (property_exact row p b k (each_left b c o)) (properties_exact row m (each_right b c o))

pub exact_bytes : (row : Row) {ps : List Prop} {b : List ℕ} → Many (Exact row) ps b → b ≡ flat (property_bytes row) ps
exact_bytes row done = refl
exact_bytes row (more {a = p} {vs = ps} {b = b} {c = c} k m) = ap (λ (l : List ℕ). l ++ c) k.bytes ∙ ap (λ (l : List ℕ). property_bytes row p ++ l) (exact_bytes row m)
