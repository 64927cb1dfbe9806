-- A block that was read, handed over to be written: row by row it belongs together, can be written, and is no longer. Assumes nothing.
use mathlib.Core.Path.{◌≡◌, refl, sym, ap}
use mathlib.Core.Bool.{Bool, true, false, not, cond, false≢true}
use mathlib.Core.Option.{none, some}
use mathlib.Core.List.{List, [], ◌∷◌, ◌++◌}
use Prim.Native.Nat.{ℕ, ◌+◌, ◌≤◌}
use native.Mathlib.Omega.{arith}
use lib.Dec.{eqb, eqb_refl}
use borrow.Author.Tests.{eqb-true, not-true}
use Rattle.grammar.specs.Choice.{lookup, is_empty, all}
use Rattle.grammar.specs.Tables.{Form, Forms, Row}
use Rattle.grammar.specs.Record.{all_of, unless_empty}
use Rattle.grammar.specs.Sentence.{Value, Prop}
use Rattle.grammar.specs.Octets.{Each, nil, ◌&◌}
use Rattle.reading.proofs.Lists.{T_true, lookup_each}
use Rattle.writing.specs.Lists.{flat, total}
use Rattle.writing.specs.Handed.{Givens, items, tag, entries}
use Rattle.writing.specs.Size.{most, with_length, props_size}
use Rattle.writing.specs.Order.{props_fields}
use Rattle.writing.specs.Refuse.{InBlock, Writable}
use Rattle.writing.specs.Meant.{Filled}
use Rattle.writing.proofs.Each.{each_imp, each_both, flat_each}
use Rattle.writing.proofs.Tests.{and_left, and_right, nil_when, eq_when, eq_not}
use Rattle.writing.proofs.Sizes.{weigh}
use Rattle.tidy_form.specs.Tidy.{with_set}
use Rattle.tidy_form.proofs.Has.{with_length_mono, SuitsIn, prop_size}
use Rattle.tidy_form.proofs.Rows.{RowGiven}

-- ---- the bytes of all rows are no more than those of all properties

abbrev all_size : Forms → List Prop → ℕ
all_size rs ps = total (λ r. weigh r.1 (all_of r.0 ps)) rs

-- no identifier stands twice in a place
abbrev pub others : ℕ → Forms → Bool
others i rs = all (λ s. not (eqb i s.0)) rs

abbrev pub Distinct : Forms → Type 0
Distinct [] = Unit {0}
Distinct (r ∷ rs) = (others r.0 rs ≡ true) × Distinct rs

module _ (p : Prop) (ps : List Prop) where
  -- a property bears on no row but its own
  other_rows : (rs : Forms) → others p.0 rs ≡ true → all_size rs (p ∷ ps) ≡ all_size rs ps
  unfolding all_of
  other_rows [] d = refl
  other_rows (r ∷ rs) d =
      rw (not-true (eqb p.0 r.0) (and_left (not (eqb p.0 r.0)) (others p.0 rs) d), other_rows rs (and_right (not (eqb p.0 r.0)) (others p.0 rs) d))

  add_row : (rs : Forms) → Distinct rs → all_size rs (p ∷ ps) ≤ prop_size rs p + all_size rs ps
  unfolding all_of
  add_row [] d = omega arith
  add_row (r ∷ rs) d = go (eqb p.0 r.0) refl (add_row rs d.1)
    where
      go : (t : Bool) → eqb p.0 r.0 ≡ t → all_size rs (p ∷ ps) ≤ prop_size rs p + all_size rs ps
          → weigh r.1 (cond t (p.1 ∷ all_of r.0 ps) (all_of r.0 ps)) + all_size rs (p ∷ ps) ≤ prop_size (r ∷ rs) p + (weigh r.1 (all_of r.0 ps) + all_size rs ps)
      go true e ih =
          let i : p.0 ≡ r.0 = eqb-true p.0 r.0 e in
          let n = other_rows rs (rw i d.0) in
          rw ((eq_when r.0 p.0).1 (sym i)) (omega arith)
      go false e ih =
          let m : eqb r.0 p.0 ≡ false = (eq_not r.0 p.0).1 (λ i. (eq_not p.0 r.0).0 e (sym i)) in
          rw m (omega arith)

no_rows : (rs : Forms) → all_size rs [] ≡ 0
unfolding all_of
no_rows [] = refl
no_rows (r ∷ rs) = omega (arith, no_rows rs)

rows_size : (rs : Forms) → Distinct rs → (ps : List Prop) → all_size rs ps ≤ total (prop_size rs) ps
rows_size rs d [] = omega (arith, no_rows rs)
rows_size rs d (p ∷ ps) = omega (arith, add_row p ps rs d, rows_size rs d ps)

-- ---- a property stands in some row

no_row : (i : ℕ) (f : Form) (ps : List Prop) {rs : Forms} → Each (λ r. all_of r.0 ps ≡ []) rs → lookup rs i ≡ some f → all_of i ps ≡ []
no_row i f ps rows e = lookup_each (λ r. all_of r.0 ps ≡ []) rows i f e

some_row : (row : Row) (p : Prop) (ps : List Prop) → SuitsIn row p → Each (λ r. all_of r.0 (p ∷ ps) ≡ []) row.forms → ⊥
unfolding all_of
some_row row p ps (f, (e, _)) rows =
    let n = no_row p.0 f (p ∷ ps) rows e in
    let m : p.1 ∷ all_of p.0 ps ≡ [] = rw (T_true (eqb p.0 p.0) (eqb_refl p.0)) at n in
    let z : ◌≡◌ {A = ℕ} 0 1 = cc in
    omega arith

-- no entries, no items of any row
no_items : (g : Givens) (rs : Forms) → flat (λ r. tag r (items (g r.0))) rs ≡ [] → Each (λ r. items (g r.0) ≡ []) rs
no_items g [] e = nil
no_items g (r ∷ rs) e = go (no_items g rs) (items (g r.0)) refl e
  where
    go : (flat (λ r. tag r (items (g r.0))) rs ≡ [] → Each (λ r. items (g r.0) ≡ []) rs) → (vs : List Value) → items (g r.0) ≡ vs
        → tag r vs ++ flat (λ r. tag r (items (g r.0))) rs ≡ [] → Each (λ r. items (g r.0) ≡ []) (r ∷ rs)
    go ih [] q e = q & ih e
    go ih (v ∷ vs) q e = let z : ◌≡◌ {A = ℕ} 0 1 = cc in absurd (omega arith)

-- ---- a block handed over

total_le : {A : Type 0} (u w : A → ℕ) {l : List A} → Each (λ a. u a ≤ w a) l → total u l ≤ total w l
total_le u w nil = omega arith
total_le u w (p & ps) = omega (arith, total_le u w ps)

module _ (row : Row) (g : Givens) (ps : List Prop) (rows : Each (λ r. RowGiven r.0 r.1 ps (g r.0)) row.forms) where
  -- nothing is handed over for a block that is absent
  pub rows_belong : Each (InBlock (not (is_empty ps)) g) row.forms
  rows_belong = each_imp (λ r w. (w.sorted, λ e. w.empty (go ps e))) rows
    where
      go : (ps : List Prop) → not (is_empty ps) ≡ false → ps ≡ []
      go [] e = refl
      go (p ∷ ps) e = absurd (false≢true (sym e))

  pub rows_sound : Each Writable (props_fields row g)
  unfolding props_fields
  rows_sound = flat_each _ (each_imp (λ r w. w.sound) rows)

  rows_lighter : props_size row g ≤ all_size row.forms ps
  unfolding props_size
  rows_lighter = total_le _ _ (each_imp (λ r w. w.light) rows)

  -- what is written is no longer than what was read, which took n bytes with its length
  pub rows_light : Distinct row.forms → (n : ℕ) → with_length (total (prop_size row.forms) ps) ≤ n → n ≤ most → with_length (props_size row g) ≤ n
  rows_light d n l h =
      let k : props_size row g ≤ total (prop_size row.forms) ps = omega (arith, rows_lighter, rows_size row.forms d ps) in
      omega (arith, with_length_mono (props_size row g) (total (prop_size row.forms) ps) k (omega arith))

  -- a set that was read is written with some property
  pub rows_filled : Each (SuitsIn row) ps → Filled (not (is_empty ps)) (is_empty (entries row g))
  unfolding entries
  rows_filled ss t e = go ps ss t (each_imp (λ r w. w.0.whole w.1) (each_both rows (no_items g row.forms ((nil_when _).0 e))))
    where
      go : (qs : List Prop) → Each (SuitsIn row) qs → not (is_empty qs) ≡ true → Each (λ r. all_of r.0 qs ≡ []) row.forms → ⊥
      go [] ss t w = false≢true t
      go (p ∷ qs) (s & ss) t w = some_row row p qs s w

-- ---- the set, by the list that it comes from

module _ {A : Type 0} (f : List Prop → A) where
  pub with_list : {B : Type 0} (from : Bool → A → B) (e : A) → f [] ≡ e → (ps : List Prop) → with_set from e (unless_empty f ps) ≡ from (not (is_empty ps)) (f ps)
  with_list from e i [] = ap (from false) (sym i)
  with_list from e i (p ∷ ps) = refl

  pub set_list : (ps : List Prop) (s : A) → s ≡ f ps → cond (not (is_empty ps)) (some s) none ≡ unless_empty f ps
  set_list [] s e = refl
  set_list (p ∷ ps) s e = ap some e
