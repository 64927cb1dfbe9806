-- One property, or one filter, is passed: a reader of places ends where the grammar does, and what is left is the rest. Assumes nothing.
use mathlib.Core.Path.{◌≡◌, refl, sym, ap, ◌∙◌}
use mathlib.Core.List.{List, [], ◌∷◌, ◌++◌, append-nil, append_assoc}
use Prim.Native.Nat.{ℕ, ◌+◌, ◌-◌, ◌≤◌, ◌<◌}
use native.Mathlib.Omega.{arith}
use lib.ListN.{length, take, drop, get_or, length-append, length-drop, take-append-drop}
use lib.Seq.{take_at, get_or-drop, get_or-append_seam}
use Rattle.grammar.specs.Gram.{Gram, mapped, done, more, Many}
use Rattle.grammar.specs.Tables.{Row}
use Rattle.grammar.specs.Record.{PropOf, Filter}
use Rattle.grammar.specs.Sentence.{Prop}
use Rattle.reading.specs.Refusal.{Refusal}
use Rattle.reading.specs.Reader.{Fit, got, bad, Reader}
use Rattle.reading.specs.Read.{property_of, filter_of}
use Rattle.reading.specs.Place.{Span, as_places}
use Rattle.reading.proofs.Reading.{bad_got, got_inj, Reads}
use Rattle.reading.proofs.Refusing.{got_bad}
use Rattle.reading.proofs.Fields.{reads_property}
use Rattle.reading.proofs.Packets.{reads_filter}
use Rattle.reading.proofs.Forget.{Like, gots, bads, First, Stands as StandsIn, Forgets}
use Rattle.reading.proofs.Forget as forget
use Rattle.reading.proofs.Places.{property_says, filter_says}
use Rattle.positions.specs.Position.{from_at}
use Rattle.positions.proofs.Trails.{Trails, trails_property, trails_filter}
use Rattle.positions.proofs.Position.{got_left, got_within, bad_left}
use Rattle.property_value.proofs.Laws.{property_ahead}
use Rattle.filters.proofs.Laws.{filter_ahead}
use Rattle.writing.specs.Spell.{string}
use Rattle.tidy_form.specs.Form.{property_bytes}
use Rattle.tidy_form.specs.Order.{Exact, ExactFilter}
use Rattle.tidying.specs.Copied.{Between, Passed, FilterBetween, FilterPassed}

-- what fills the bytes l, where something does
pub many_more : {A : Type 0} {G : Gram A} {a : A} {vs : List A} {l : List ℕ} → Many G (a ∷ vs) l → (b c : List ℕ) × (l ≡ b ++ c) × G a b × Many G vs c
many_more (more {b = b} {c = c} k m) = (b, c, refl, k, m)

pub many_none : {A : Type 0} {G : Gram A} {l : List ℕ} → Many G [] l → l ≡ []
many_none done = refl

-- ---- where a reader stops

stands_here : (s : List ℕ) (at : ℕ) → StandsIn s (length s) (drop at s)
stands_here s at = record {
  before = take at s;
  after = [];
  whole = sym (ap (λ (l : List ℕ). take at s ++ l) (append-nil (drop at s)) ∙ take-append-drop at s);
  stop = omega (arith, ap length (take-append-drop at s), length-append (take at s) (drop at s));
}

module _ {A B : Type 0} {R : A → B → Type 0} {p : Reader A} {p' : Reader B} {G : Gram B} (s : List ℕ) (at : ℕ) (F : Forgets s (length s) R p p') (S : Reads p' G)
    {v : B} (b c : List ℕ) (e : drop at s ≡ b ++ c) (g : G v b) where
  reads_here : p' (drop at s) ≡ got (v, c)
  reads_here = rw e (S.whole v b c g)

  -- a reader that is told a place is left with the same bytes
  pub item_at : Trails p → 0 < length b → {a : A} {m : ℕ} → got (a, m) ≡ from_at p s at → (m ≡ at + length b) × (drop m s ≡ c)
  item_at T n {a} {m} f =
      let h : m ≤ length s = got_within p s at T a m (sym f) in
      let (y, i, r) = forget.like_got (p (drop at s)) (p' (drop at s)) (a, drop m s) (F.like (drop at s) (stands_here s at)) (got_left p s at T a m (sym f)) in
      let j : (v, c) ≡ y = got_inj (sym reads_here ∙ i) in
      let k : drop m s ≡ c = r.1 ∙ ap (λ (z : B × List ℕ). z.1) (sym j) in
      (omega (arith, n, h, ap length k, length-drop m s, ap length e, length-append b c, length-drop at s), k)

  pub item_read : {X : Type 0} {k : Refusal} → bad k ≡ from_at p s at → X
  item_read {X} {k} f = go (F.like (drop at s) (stands_here s at)) (bad_left p s at k (sym f)) reads_here
    where
      go : {m : Fit (A × List ℕ)} {m' : Fit (B × List ℕ)} → Like (First R) m m' → m ≡ bad k → m' ≡ got (v, c) → X
      go (gots r) i j = got_bad i
      go bads i j = absurd (bad_got j)

-- ---- a property

module _ (row : Row) (s : List ℕ) (at : ℕ) where
  pub passed_found : {a : PropOf Span} {m : ℕ} → got (a, m) ≡ from_at (property_of as_places row (length s)) s at → Passed row s at m
  passed_found {a} {m} f = record { ahead = λ h. property_ahead row s at a m f; says = λ p ps w. let (b, c, e, k, r) = many_more w in go p ps b c e k r }
    where
      go : (p : Prop) (ps : List Prop) (b c : List ℕ) → drop at s ≡ b ++ c → Exact row p b → Many (Exact row) ps c → Between row s at p ps m
      go p ps b c e k r =
          let n : length b ≡ length (property_bytes row p) = ap length k.bytes in
          let (i, j) = item_at s at (property_says s row (length s)) (reads_property row (length s)) b c e k.spelt (trails_property as_places (length s) row) (omega (arith, n)) f in
          let l : m - at ≡ length b = omega (arith, i) in
          let z : get_or (drop at s) 0 0 ≡ p.0 = rw (e, k.bytes) in
          let o : at + 0 ≡ at = omega arith in
          record { bytes = rw (l, e) (take_at b c (length b) refl ∙ k.bytes); head = rw o at (sym (get_or-drop at s 0 0) ∙ z); rest = rw j r }

  pub passed_none : {k : Refusal} → bad k ≡ from_at (property_of as_places row (length s)) s at → Passed row s at (length s)
  passed_none f = record {
    ahead = λ h. h;
    says = λ p ps w. let (b, c, e, k, r) = many_more w in item_read s at (property_says s row (length s)) (reads_property row (length s)) b c e k.spelt f;
  }

-- ---- a filter

module _ (s : List ℕ) (at : ℕ) where
  pub filter_found : {a : Filter Span} {m : ℕ} → got (a, m) ≡ from_at (filter_of as_places (length s)) s at → FilterPassed s at m
  filter_found {a} {m} f = record { ahead = λ h. filter_ahead s h f; says = λ z zs w. let (b, c, e, k, r) = many_more w in go z zs b c e k r }
    where
      go : (z : List ℕ × ℕ) (zs : List (List ℕ × ℕ)) (b c : List ℕ) → drop at s ≡ b ++ c → ExactFilter z b → Many ExactFilter zs c → FilterBetween s at z zs m
      go z zs b c e k r =
          let n : length b ≡ length (string z.0) + 1 = ap length k.bytes ∙ length-append (string z.0) (z.1 ∷ []) in
          let (i, j) = item_at s at (filter_says s (length s)) (reads_filter (length s)) b c e (mapped k.spelt) (trails_filter as_places (length s)) (omega (arith, n)) f in
          let l : m - 1 - at ≡ length (string z.0) = omega (arith, i, n) in
          let q : m - 1 ≡ at + length (string z.0) = omega (arith, i, n) in
          let d : drop at s ≡ string z.0 ++ (z.1 ∷ c) = e ∙ rw k.bytes (append_assoc (string z.0) (z.1 ∷ []) c) in
          record {
            text = rw (l, d) (take_at (string z.0) (z.1 ∷ c) (length (string z.0)) refl);
            options = rw q (sym (get_or-drop at s (length (string z.0)) 0) ∙ rw d (get_or-append_seam (string z.0) z.1 c 0));
            rest = rw j r;
          }

  pub filter_none : {k : Refusal} → bad k ≡ from_at (filter_of as_places (length s)) s at → FilterPassed s at (length s)
  filter_none f = record {
    ahead = λ h. (h, omega arith);
    says = λ z zs w. let (b, c, e, k, r) = many_more w in item_read s at (filter_says s (length s)) (reads_filter (length s)) b c e (mapped k.spelt) f;
  }
