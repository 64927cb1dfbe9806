-- An item leaves less than it was given, with places too: what a loop over a block or over filters goes by. Assumes nothing.
use mathlib.Core.Path.{◌≡◌}
use mathlib.Core.Bool.{true, false, not}
use mathlib.Core.List.{List, [], ◌∷◌, ◌++◌, append-nil}
use Prim.Native.Nat.{ℕ, ◌-◌, ◌≤◌}
use native.Mathlib.Omega.{arith}
use lib.ListN.{length, replicate, length-replicate}
use Rattle.grammar.specs.Choice.{is_in}
use Rattle.grammar.specs.Gram.{Gram, forget, Solid}
use Rattle.grammar.specs.Record.{PropOf}
use Rattle.grammar.specs.Sentence.{met}
use Rattle.grammar.specs.Tables.{Row}
use Rattle.reading.specs.Refusal.{nr}
use Rattle.reading.specs.Reader.{got, bad, Reader, ◌>>◌, guard, head_of, run_fit, chain_fit, many_fit}
use Rattle.reading.specs.Read.{Shape, as_bytes, text_of, property_of, once_of, filter_of, reason_of}
use Rattle.reading.specs.Place.{as_places}
use Rattle.reading.proofs.Reading.{bad_got, from_got, from_bind, from_guard, Reads, less, reads_only}
use Rattle.reading.proofs.Fields.{reads_byte, reads_text, reads_property, property_solid, reads_once, once_solid}
use Rattle.reading.proofs.Packets.{reads_filter, filter_solid, reason_solid, text_solid}
use Rattle.reading.proofs.Forget.{like_got, Stands, Forgets, forgets_same}
use Rattle.reading.proofs.Places.{text_says, property_says, once_says, filter_says}
use Rattle.positions.proofs.Walk.{Less}

-- some stream in which l stands
stands_somewhere : (end : ℕ) (l : List ℕ) → length l ≤ end → Stands (replicate (end - length l) 0 ++ l) end l
stands_somewhere end l h = record {
  before = replicate (end - length l) 0;
  after = [];
  whole = rw (append-nil l);
  stop = rw length-replicate (omega arith);
}

placed_less : {A B : Type 0} {G : Gram B} {R : List ℕ → A → B → Type 0} (end : ℕ) (p : Reader A) (p' : Reader B) → ((s : List ℕ) → Forgets s end (R s) p p') → Reads p' G → Solid G → Less end p
placed_less end p p' F T L l z h e =
    let (y, j, r) = like_got (p l) (p' l) z ((F (replicate (end - length l) 0 ++ l)).like l (stands_somewhere end l h)) e in
    rw r.1 (less T L l y j)

pub property_less : (row : Row) (end : ℕ) → Less end (property_of as_places row end)
property_less row end = placed_less end (property_of as_places row end) (property_of as_bytes row end) (λ s. property_says s row end) (reads_property row end) (property_solid row)

-- 02, P9: one that is not met a second time
pub once_less : (row : Row) (end : ℕ) (σ : List ℕ) → Less end (once_of as_places row end σ)
once_less row end σ = placed_less end (once_of as_places row end σ) (once_of as_bytes row end σ) (λ s. once_says s row end σ) (reads_once row end σ) (once_solid row σ)

module _ (h : Shape) (row : Row) (end : ℕ) (σ : List ℕ) (i : ℕ) (s : List ℕ) where
  pub once_fresh : is_in i σ ≡ false → once_of h row end σ (i ∷ s) ≡ property_of h row end (i ∷ s)
  unfolding once_of head_of
  once_fresh e = rw e

  pub once_twice : is_in i σ ≡ true → once_of h row end σ (i ∷ s) ≡ bad (nr 22 (i ∷ []))
  unfolding once_of head_of
  once_twice e = rw e

-- a block of which no property is doubled is a run of properties
once_run : (h : Shape) (row : Row) (end : ℕ) (σ f s : List ℕ) (vs : List (PropOf h.Str)) → run_fit (met row) (once_of h row end) σ f s ≡ got vs → run_fit forget (λ _. property_of h row end) tt f s ≡ got vs
unfolding run_fit once_of head_of
once_run h row end σ [] [] = λ vs e. e
once_run h row end σ [] (x ∷ s) = λ vs e. absurd (bad_got e)
once_run h row end σ (y ∷ f) [] = λ vs e. e
once_run h row end σ (y ∷ f) (x ∷ s) =
    from_bind (guard (not (is_in x σ)) (nr 22 (x ∷ [])) >> property_of h row end (x ∷ s)) _ λ z e.
    from_bind (run_fit (met row) (once_of h row end) (met row σ z.0) f z.1) _ λ ws e'.
    let i : property_of h row end (x ∷ s) ≡ got z = from_guard {C = λ w. property_of h row end (x ∷ s) ≡ got w} (not (is_in x σ)) (nr 22 (x ∷ [])) (property_of h row end (x ∷ s)) (λ _ w j. j) z e in
    from_got (λ (us : List (PropOf h.Str)). run_fit forget (λ _. property_of h row end) tt (y ∷ f) (x ∷ s) ≡ got us) (z.0 ∷ ws)
    (rw (i, once_run h row end (met row σ z.0) f z.1 ws e'))

pub once_many : (h : Shape) (row : Row) (end : ℕ) (σ s : List ℕ) (vs : List (PropOf h.Str)) → chain_fit (met row) (once_of h row end) σ s ≡ got vs → many_fit (property_of h row end) s ≡ got vs
unfolding chain_fit
once_many h row end σ s vs e = once_run h row end σ s s vs e

pub filter_less : (end : ℕ) → Less end (filter_of as_places end)
filter_less end = placed_less end (filter_of as_places end) (filter_of as_bytes end) (λ s. filter_says s end) (reads_filter end) filter_solid

pub text_less : (end : ℕ) → Less end (text_of as_places end)
text_less end = placed_less end (text_of as_places end) (text_of as_bytes end) (λ s. text_says s end) (reads_text end) text_solid

pub reason_less : (rs : List ℕ) (end : ℕ) → Less end (reason_of rs)
reason_less rs end = placed_less end (reason_of rs) (reason_of rs) (λ s. forgets_same (reason_of rs)) (reads_only _ _ (reads_byte _)) (reason_solid rs)
