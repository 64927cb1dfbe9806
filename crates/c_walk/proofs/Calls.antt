-- The answers to calls of `ecch_next_user` one after the other are the user properties of the record that was read, in order, and then 21 for ever. Assumes nothing.
use mathlib.Core.Path.{◌≡◌, refl, sym, ap, ◌∙◌, subst}
use mathlib.Core.Option.{Option, none, some}
use mathlib.Core.List.{List, [], ◌∷◌, map}
use Prim.Native.Nat.{ℕ, ◌+◌, ◌≤◌}
use native.Mathlib.Omega.{arith}
use lib.ListN.{length, take, drop, get_or}
use lib.Seq.{sets}
use Rattle.grammar.specs.Choice.{lookup}
use Rattle.grammar.specs.Gram.{mapped}
use Rattle.grammar.specs.Record.{Val, num, str, duo, PropOf, PublishProps, Props, all_of, kind_of}
use Rattle.grammar.specs.Tables.{Row, Layout, a_publish, an_ack, a_subscribe, a_reply, an_unsubscribe, a_ping, kinds, row_of_layout, row_of_kind}
use Rattle.reading.specs.Refusal.{accepted}
use Rattle.reading.specs.Reader.{Fit, got, bad, many_fit}
use Rattle.reading.specs.Read.{property_of}
use Rattle.reading.specs.Place.{Span, Placed, as_places, read_placed_of, values_at, on_some}
use Rattle.reading.proofs.Places.{placed_accepted}
use Rattle.placing.specs.Placing.{FieldsAt, PlacedSentence, framed}
use Rattle.placing.proofs.Placed.{read_placed}
use Rattle.c_layout.specs.Value.{fit_number}
use Rattle.walker.specs.Walk.{block_in}
use Rattle.walker.specs.Calls.{answers_of}
use Rattle.walker.proofs.Lies.{no_some, some_inj, said_block}
use Rattle.walker.proofs.Theorem.{front, next_after}
use Rattle.walker.proofs.Calls.{cons_answers, block_many, none_many}
use Rattle.c_walk.specs.Next.{step_numbers}
use Rattle.c_walk.specs.Calls.{Calls, uncalled, called, heard, to_hear, kind_in}

-- ---- the array

-- five numbers that are stored in an array with room for them: the first, and the other four
five : (b : List ℕ) → 5 ≤ length b → (x c d e f : ℕ) → (get_or (sets b 0 (x ∷ c ∷ d ∷ e ∷ f ∷ [])) 0 0 ≡ x) × (take 4 (drop 1 (sets b 0 (x ∷ c ∷ d ∷ e ∷ f ∷ []))) ≡ c ∷ d ∷ e ∷ f ∷ [])
five [] h x c d e f = absurd (omega arith)
five (a ∷ []) h x c d e f = absurd (omega arith)
five (a ∷ a₁ ∷ []) h x c d e f = absurd (omega arith)
five (a ∷ a₁ ∷ a₂ ∷ []) h x c d e f = absurd (omega arith)
five (a ∷ a₁ ∷ a₂ ∷ a₃ ∷ []) h x c d e f = absurd (omega arith)
five (a ∷ a₁ ∷ a₂ ∷ a₃ ∷ a₄ ∷ b) h x c d e f = (refl, refl)

five_stored : (b : List ℕ) → 5 ≤ length b → (m : ℕ) (o : Fit (Val Span)) → (get_or (sets b 0 (step_numbers m o)) 0 0 ≡ m) × (take 4 (drop 1 (sets b 0 (step_numbers m o))) ≡ drop 1 (step_numbers 0 o))
five_stored b h m (got (num n)) = five b h m 0 0 0 0
five_stored b h m (got (str p)) = five b h m 0 0 0 0
five_stored b h m (got (duo k v)) = five b h m k.start k.len v.start v.len
five_stored b h m (bad k) = five b h m 0 0 0 0

heard_is : {number : ℕ} {after : List ℕ} (b : List ℕ) (m : ℕ) (o : Fit (Val Span)) → 5 ≤ length b → number ≡ fit_number o → after ≡ sets b 0 (step_numbers m o) → (get_or after 0 0 ≡ m) × (heard (number, after) ≡ to_hear o)
heard_is b m o h i j =
    let (p, q) = five_stored b h m o in
    (ap (λ (l : List ℕ). get_or l 0 0) j ∙ p, pair_is i (ap (λ (l : List ℕ). take 4 (drop 1 l)) j ∙ q))
  where
    pair_is : {k l : ℕ} {vs ws : List ℕ} → k ≡ l → vs ≡ ws → ◌≡◌ {A = ℕ × List ℕ} (k, vs) (l, ws)
    pair_is a b = rw (a, b)

cons_is : {A : Type 0} {a b : A} {vs ws : List A} → a ≡ b → vs ≡ ws → a ∷ vs ≡ b ∷ ws
cons_is p q = rw (p, q)

-- ---- the calls

-- in a row, where the properties ps stand from `at` on in the bytes before `end`
module _ (row : Row) (s : List ℕ) (end : ℕ) where
  calls_list : {at : ℕ} {rs : List (ℕ × List ℕ)} → Calls (some row) s end at rs → (ps : List (PropOf Span)) → many_fit (property_of as_places row (length (front s end))) (drop at (front s end)) ≡ got ps
      → map heard rs ≡ map to_hear (answers_of (length rs) (all_of 38 ps))
  calls_list uncalled ps e = refl
  calls_list (called {before = b} {rs = rs} h w c) ps e =
      let (ws, f, q) = next_after row (front s end) w.steps ps e in
      let (n, r) = heard_is b w.m w.o h w.returned w.stored in
      let i = calls_list c ws (subst (λ (k : ℕ). many_fit (property_of as_places row (length (front s end))) (drop k (front s end)) ≡ got ws) (sym n) f) in
      cons_is r i ∙ ap (map to_hear) (cons_answers (length rs) q)

-- in the row of a kind that has none
calls_none : {s : List ℕ} {end at : ℕ} {rs : List (ℕ × List ℕ)} → Calls none s end at rs → map heard rs ≡ map to_hear (answers_of (length rs) [])
calls_none uncalled = refl
calls_none (called {before = b} {rs = rs} h w c) =
    let (n, r) = heard_is b w.m w.o h w.returned w.stored in
    cons_is (r ∙ ap to_hear w.steps.0) (calls_none c)

-- header: "Of a frame that was refused all of these are 0, and there is none"; so of a record without a block, whatever its kind
pub none_yield : (s : List ℕ) (row : Option Row) {rs : List (ℕ × List ℕ)} → Calls row s 0 0 rs → map heard rs ≡ map to_hear (answers_of (length rs) [])
unfolding all_of
none_yield s none c = calls_none c
none_yield s (some row) c = calls_list row s 0 c [] (none_many s row 0)

-- ---- the record

row_in : {X : Type 0} {r row : Row} {p : Span} (at : X → Span) (o : Option X) → on_some {B = Row × Span} (λ (x : X). (r, at x)) o ≡ some (row, p) → r ≡ row
row_in at none e = absurd (no_some e)
row_in at (some x) e = ap (λ (z : Row × Span). z.0) (some_inj e)

-- the kind of a record in its sentence has the row in which its block is read
fields_row : (l : Layout) (x at : ℕ) (v : Placed) (f : List ℕ) → lookup kinds (kind_of x) ≡ some l → FieldsAt l x at v f → (row : Row) (p : Span) → block_in v ≡ some (row, p) → row_of_kind (kind_in v) ≡ some row
unfolding row_of_kind kinds
fields_row a_publish x at _ _ i (mapped {a = a} g) row p e = ap some (row_in (λ (ps : PublishProps Span (λ A. Span)). ps.user) a.1.1.0 e)
fields_row (an_ack rs) x at _ _ i (mapped {a = a} g) row p e = ap row_of_layout i ∙ ap some (row_in (λ (ps : Props Span (λ A. Span)). ps.user) a.1.1 e)
fields_row a_subscribe x at _ _ i (mapped {a = a} g) row p e = ap some (row_in (λ (ps : Props Span (λ A. Span)). ps.user) a.1.0 e)
fields_row (a_reply rs) x at _ _ i (mapped {a = a} g) row p e = ap row_of_layout i ∙ ap some (row_in (λ (ps : Props Span (λ A. Span)). ps.user) a.1.0 e)
fields_row an_unsubscribe x at _ _ i (mapped {a = a} g) row p e = ap some (row_in (λ (ps : Props Span (λ A. Span)). ps.user) a.1.0 e)
fields_row a_ping x at _ _ i (mapped g) row p e = absurd (no_some e)

sentence_row : {v : Placed} {f : List ℕ} → PlacedSentence v f → (row : Row) (p : Span) → block_in v ≡ some (row, p) → row_of_kind (kind_in v) ≡ some row
sentence_row {v = v} (framed {x = x} {l = l} b c i k g) = fields_row l x (1 + length c) v b i g

-- header: "hand over the same stream and ECCH_KIND, begin at ECCH_BLOCK_START, and let `end` be ECCH_BLOCK_START + ECCH_BLOCK_LEN: the answers are the user properties of the record, in order, then 21"
pub c_calls_yield : (limit : Option ℕ) (s : List ℕ) (v : Placed) (n : ℕ) → read_placed_of limit s ≡ accepted v n → (row : Row) (p : Span) → block_in v ≡ some (row, p)
    → {rs : List (ℕ × List ℕ)} → Calls (row_of_kind (kind_in v)) s (p.start + p.len) p.start rs → (vs : List (Val Span)) × (values_at as_places s p row 38 ≡ got vs) × (map heard rs ≡ map to_hear (answers_of (length rs) vs))
unfolding values_at
c_calls_yield limit s v n e row p i {rs = rs} c =
    let (w, j, _) = placed_accepted limit s v n e in
    let (ps, k) = said_block s v w j row p i in
    let (b, _, _, _, g) = read_placed limit s v n e in
    let c' = subst (λ (o : Option Row). Calls o s (p.start + p.len) p.start rs) (sentence_row g row p i) c in
    (all_of 38 ps, rw k, calls_list row s (p.start + p.len) c' ps (block_many s row p ps k))
