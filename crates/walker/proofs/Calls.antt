-- The answers to calls one after the other are the user properties of the record in order, and then nothing for ever. Assumes nothing.
use Rattle.std.specs.Prelude as std
use mathlib.Core.Path.{◌≡◌, refl, sym, ap, ◌∙◌, subst}
use mathlib.Core.Option.{Option, none, some}
use mathlib.Core.List.{List, [], ◌∷◌, map}
use Prim.Native.Nat.{ℕ, suc, ◌+◌}
use native.Mathlib.Omega.{arith}
use lib.ListN.{length, take, drop}
use lib.Seq.{length-take-le}
use Rattle.grammar.specs.Record.{Val, PropOf, all_of}
use Rattle.grammar.specs.Tables.{Row, publish_row}
use Rattle.reading.specs.Reader.{Fit, got, many_fit}
use Rattle.reading.specs.Read.{property_of, properties_fit}
use Rattle.reading.specs.Place.{Span, part_of, as_places, again, values_at, read_placed_of}
use Rattle.positions.proofs.At.{part_slice}
use Rattle.positions.proofs.Less.{property_less, once_many}
use Rattle.positions.proofs.Run.{none_passed, passed_end}
use Rattle.records.specs.Answered.{told_user}
use Rattle.tables.specs.Property.{table_row}
use Rattle.tables.specs.declared.property.PropertyRow.{PropertyRow}
use Rattle.walker.specs.Walk.{Next, block_of, spread, Begins}
use Rattle.walker.specs.Calls.{Calls, uncalled, called, answers_of, users_in}
use Rattle.walker.specs.declared.Walker.{Walker}
use Rattle.walker.proofs.Lies.{again_got, read_block}
use Rattle.walker.proofs.Theorem.{Takes, took, ended, next_after, front, front_is}
use Rattle.records.specs.declared.span.Span.{Span as CodeSpan}

pub cons_answers : {o : Fit (Val Span)} {vs ws : List (Val Span)} (k : ℕ) → Takes o vs ws → o ∷ answers_of k ws ≡ answers_of (suc k) vs
cons_answers k took = refl
cons_answers k ended = refl

-- the properties of a block are read in the bytes before its end
pub block_many : (s : List ℕ) (row : Row) (p : Span) (ps : List (PropOf Span)) → again (properties_fit as_places row) s p ≡ got ps
    → many_fit (property_of as_places row (length (front s (p.start + p.len)))) (drop p.start (front s (p.start + p.len))) ≡ got ps
unfolding properties_fit
block_many s row p ps j =
    let (i, f) = again_got (properties_fit as_places row) s p ps j in
    let end : ℕ = p.start + p.len in
    let n : length (take end s) ≡ end = length-take-le end s i in
    let g : many_fit (property_of as_places row (length (take end s))) (drop p.start (take end s)) ≡ got ps = rw (n, sym (part_slice s p.len p.start i)) (once_many as_places row end [] (part_of s p) ps f) in
    subst (λ (t : List ℕ). many_fit (property_of as_places row (length t)) (drop p.start t) ≡ got ps) (sym (front_is s end i)) g

-- before index 0 stands none
pub none_many : (s : List ℕ) (row : Row) (at : ℕ) → many_fit (property_of as_places row (length (front s 0))) (drop at (front s 0)) ≡ got []
none_many s row at =
    let t : List ℕ = front s 0 in
    let L = property_less row (length t) in
    passed_end t L (none_passed t L at) (omega (arith, ap length (front_is s 0 (omega arith))))

-- from a walker w on, over the bytes before `end` of s, in the row of a place, where the properties ps stand from its index on
module _ (s : List ℕ) (end : ℕ) (which : PropertyRow) where
  abbrev t : List ℕ
  t = front s end

  calls_list : {w v : Walker} {rs : List (std.Option (CodeSpan × CodeSpan))} → Calls w rs v → w.frame.now ≡ s → w.end ≡ end → w.which ≡ which
      → (ps : List (PropOf Span)) → many_fit (property_of as_places (table_row which) (length t)) (drop w.at t) ≡ got ps → map told_user rs ≡ answers_of (length rs) (all_of 38 ps)
  calls_list uncalled i j k ps e = refl
  calls_list {w = w} (called {v = v} {r = r} {rs = rs} (fr, (en, (pl, g))) c) i j k ps e =
      let n : Next (table_row which) t w.at (told_user r) v.at = rw (i, j, k) at g in
      let (ws, f, q) = next_after (table_row which) t n ps e in
      ap (λ (l : List (Fit (Val Span))). told_user r ∷ l) (calls_list c (ap (λ x. x.now) fr ∙ i) (en ∙ j) (pl ∙ k) ws f) ∙ cons_answers (length rs) q

module _ (s : List ℕ) (w v : Walker) (rs : List (std.Option (CodeSpan × CodeSpan))) (c : Calls w rs v) (h : w.frame.now ≡ s) where
  -- the answers are those of the user properties that u says
  abbrev Lists : Option (Row × Span) → Type 0
  Lists u = (vs : List (Val Span)) × (users_in s u ≡ got vs) × (map told_user rs ≡ answers_of (length rs) vs)

  over_none : ◌≡◌ {A = ℕ × (ℕ × Row)} (w.at, (w.end, table_row w.which)) (0, (0, publish_row)) → Lists none
  unfolding all_of
  over_none e =
      let t : List ℕ = front s w.end in
      let z : w.end ≡ 0 = ap (λ (q : ℕ × (ℕ × Row)). q.1.0) e in
      let l : length t ≡ 0 = ap (λ (k : ℕ). length (front s k)) z ∙ ap length (front_is s 0 (omega arith)) in
      let L = property_less (table_row w.which) (length t) in
      ([], refl, calls_list s w.end w.which c h refl refl [] (passed_end t L (none_passed t L w.at) (omega (arith, l))))

  over_block : (row : Row) (p : Span) → ◌≡◌ {A = ℕ × (ℕ × Row)} (w.at, (w.end, table_row w.which)) (p.start, (p.start + p.len, row)) → (ps : List (PropOf Span)) × (again (properties_fit as_places row) s p ≡ got ps) → Lists (some (row, p))
  unfolding values_at
  over_block row p e (ps, j) =
      (all_of 38 ps, rw j, calls_list s w.end w.which c h refl refl ps (subst (λ (z : ℕ × (ℕ × Row)). many_fit (property_of as_places z.1.1 (length (front s z.1.0))) (drop z.0 (front s z.1.0)) ≡ got ps) (sym e) (block_many s row p ps j)))

  -- 02, P7: "yields user properties one after another", "nothing on a frame the reader refuses": of a walker over the frame at the start of s, k calls give the first k user properties of its record, in order, and then nothing for ever
  pub calls_yield : Begins s w.at w.end w.which → Lists (block_of (read_placed_of none s))
  calls_yield b = go (block_of (read_placed_of none s)) refl b
    where
      go : (u : Option (Row × Span)) → block_of (read_placed_of none s) ≡ u → (w.at, (w.end, table_row w.which)) ≡ spread u → Lists u
      go none i e = over_none e
      go (some (row, p)) i e = over_block row p e (read_block s (read_placed_of none s) refl row p i)
