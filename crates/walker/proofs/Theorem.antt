-- The answers of a walker are the user properties of the record in order, and then 21 for ever. Assumes nothing.
use mathlib.Core.Path.{◌≡◌, refl, sym, ap, ◌∙◌, subst}
use mathlib.Core.Bool.{Bool, true, false}
use mathlib.Core.Option.{Option, none, some}
use mathlib.Core.List.{List, [], ◌∷◌}
use Prim.Native.Nat.{ℕ, suc, ◌+◌, ◌≤◌, ◌<◌}
use native.Mathlib.Omega.{arith}
use lib.Dec.{leb, leb→le}
use lib.ListN.{length, take, drop, drop_of_length-le}
use lib.Seq.{length-take-le}
use borrow.Author.Tests.{leb-false, le-leb, ne_eqb}
use Rattle.grammar.specs.Record.{Val, PropOf, all_of}
use Rattle.grammar.specs.Tables.{Row, publish_row}
use Rattle.reading.specs.Refusal.{cut}
use Rattle.reading.specs.Reader.{Fit, got, bad, Reader, many_fit}
use Rattle.reading.specs.Read.{property_of, properties_fit}
use Rattle.reading.specs.Place.{Span, part_of, held_of, as_places, no_item, again, nth_of, values_at, user_at, read_placed_of}
use Rattle.reading.proofs.Lists.{T_of}
use Rattle.reading.proofs.Reading.{bad_got, got_inj, from_got, from_bind}
use Rattle.positions.specs.Position.{from_at}
use Rattle.positions.proofs.At.{part_slice}
use Rattle.positions.proofs.Less.{property_less, once_many}
use Rattle.positions.proofs.Run.{none_passed, passed_end, passed_bad, passed_next}
use Rattle.positions.proofs.Trails.{trails_property}
use Rattle.tables.specs.Property.{table_row}
use Rattle.tables.specs.declared.property.PropertyRow.{PropertyRow}
use Rattle.walker.specs.Walk.{property_at, Next, here, other, done, block_of, spread, Begins, Yields, first, later, user_in}
use Rattle.walker.proofs.Lies.{again_got, read_block}

-- o is the first of vs, and ws the rest; or 21, and there is none
pub data Takes : Fit (Val Span) → List (Val Span) → List (Val Span) → Type 0 where
  took : {v : Val Span} {ws : List (Val Span)} → Takes (got v) (v ∷ ws) ws
  ended : Takes (bad no_item) [] []

module _ (row : Row) (t : List ℕ) where
  abbrev pub P : Reader (PropOf Span)
  P = property_of as_places row (length t)

  -- after o the walk stands at m, and what is left of the user properties vs is read there
  abbrev pub After : Fit (Val Span) → ℕ → List (Val Span) → Type 0
  After o m vs = (ws : List (PropOf Span)) × (many_fit P (drop m t) ≡ got ws) × Takes o vs (all_of 38 ws)

  past : (at : ℕ) → length t ≤ at → property_at row t at ≡ bad cut
  unfolding from_at property_of
  past at h = rw (drop_of_length-le t h)

  -- where a property is read, bytes are left
  inside : (at : ℕ) (z : PropOf Span × ℕ) → property_at row t at ≡ got z → at < length t
  inside at z e = go (leb (length t) at) refl
    where
      go : (b : Bool) → leb (length t) at ≡ b → at < length t
      go true h = absurd (bad_got (sym (past at (leb→le (length t) at (T_of (leb (length t) at) h))) ∙ e))
      go false h = leb-false (length t) at h

  -- the properties from `at` on are the one that is read there and those after it
  peel : (at m : ℕ) (a : PropOf Span) → property_at row t at ≡ got (a, m) → (ps : List (PropOf Span)) → many_fit P (drop at t) ≡ got ps
      → (ws : List (PropOf Span)) × (many_fit P (drop m t) ≡ got ws) × (ps ≡ a ∷ ws)
  peel at m a e ps i =
      let L = property_less row (length t) in
      from_bind (many_fit P (drop m t)) _ (λ ws j. from_got (λ (qs : List (PropOf Span)). (ws : List (PropOf Span)) × (many_fit P (drop m t) ≡ got ws) × (qs ≡ a ∷ ws)) (a ∷ ws) (ws, j, refl)) ps
      (sym (passed_next t L (none_passed t L at) (trails_property as_places (length t) row) (inside at (a, m) e) e).rest ∙ i)

  pub next_after : {at m : ℕ} {o : Fit (Val Span)} → Next row t at o m → (ps : List (PropOf Span)) → many_fit P (drop at t) ≡ got ps → After o m (all_of 38 ps)
  unfolding all_of
  next_after (here {at = at} {m = m} {v = v} e) ps i =
      let (ws, j, q) = peel at m (38, v) e ps i in
      (ws, j, subst (λ (z : List (PropOf Span)). Takes (got v) (all_of 38 z) (all_of 38 ws)) (sym q) took)
  next_after (other {at = at} {n = n} {i = k} {v = v} e h w) ps i =
      let (ws, j, q) = peel at n (k, v) e ps i in
      let l : all_of 38 ps ≡ all_of 38 ws = ap (all_of 38) q ∙ rw (ne_eqb k 38 h) in
      rw l (next_after w ws j)
  next_after (done {at = at} {k = k} e) ps i = go (leb (length t) at) refl
    where
      go : (b : Bool) → leb (length t) at ≡ b → After (bad no_item) at (all_of 38 ps)
      go true h =
          let L = property_less row (length t) in
          let q : [] ≡ ps = got_inj (sym (passed_end t L (none_passed t L at) (leb→le (length t) at (T_of (leb (length t) at) h))) ∙ i) in
          (ps, i, subst (λ (z : List (PropOf Span)). Takes (bad no_item) (all_of 38 z) (all_of 38 z)) q ended)
      go false h =
          let L = property_less row (length t) in
          absurd (bad_got (sym (passed_bad t L (none_passed t L at) (leb-false (length t) at h) k e) ∙ i))

  first_of_lem : {o : Fit (Val Span)} {vs ws : List (Val Span)} → Takes o vs ws → o ≡ nth_of 0 vs
  first_of_lem took = refl
  first_of_lem ended = refl

  later_of : {o : Fit (Val Span)} {vs ws : List (Val Span)} (k : ℕ) → Takes o vs ws → nth_of k ws ≡ nth_of (suc k) vs
  later_of k took = refl
  later_of k ended = refl

  -- the k-th answer is the k-th of the user properties that stand from `at` on
  pub yields_nth : {at k : ℕ} {o : Fit (Val Span)} → Yields row t at k o → (ps : List (PropOf Span)) → many_fit P (drop at t) ≡ got ps → o ≡ nth_of k (all_of 38 ps)
  yields_nth (first w) ps i = let (ws, j, q) = next_after w ps i in first_of_lem q
  yields_nth (later {k = k} w y) ps i = let (ws, j, q) = next_after w ps i in yields_nth y ws j ∙ later_of k q

-- the bytes before index `end`
abbrev pub front : List ℕ → ℕ → List ℕ
front s end = held_of s (record { start = 0; len = end })

pub front_is : (s : List ℕ) (end : ℕ) → end ≤ length s → front s end ≡ take end s
unfolding held_of
front_is s end h =
    let e : 0 + end ≡ end = omega arith in
    rw (e, le-leb end (length s) h)

module _ (s : List ℕ) where
  over_none : (k : ℕ) (o : Fit (Val Span)) → Yields publish_row (front s 0) 0 k o → o ≡ bad no_item
  unfolding all_of
  over_none k o y =
      let t : List ℕ = front s 0 in
      let L = property_less publish_row (length t) in
      yields_nth publish_row t y [] (passed_end t L (none_passed t L 0) (omega (arith, ap length (front_is s 0 (omega arith)))))

  over_block : (row : Row) (p : Span) (ps : List (PropOf Span)) → again (properties_fit as_places row) s p ≡ got ps
      → (k : ℕ) (o : Fit (Val Span)) → Yields row (front s (p.start + p.len)) p.start k o → o ≡ user_at as_places s p row k
  unfolding user_at values_at properties_fit
  over_block row p ps j k o y =
      let (h, f) = again_got (properties_fit as_places row) s p ps j in
      let end : ℕ = p.start + p.len in
      let n : length (take end s) ≡ end = length-take-le end s h in
      let g : many_fit (property_of as_places row (length (take end s))) (drop p.start (take end s)) ≡ got ps = rw (n, sym (part_slice s p.len p.start h)) (once_many as_places row end [] (part_of s p) ps f) in
      yields_nth row (take end s) (subst (λ (t : List ℕ). Yields row t p.start k o) (front_is s end h) y) ps g ∙ rw j

-- 02, P7: "yields user properties one after another", "nothing on a frame the reader refuses": the k-th answer of a walker over the frame at the start of s is its record's k-th user property; then 21 for ever
pub walker_yields : (s : List ℕ) (at end : ℕ) (which : PropertyRow) → Begins s at end which
    → (k : ℕ) (o : Fit (Val Span)) → Yields (table_row which) (front s end) at k o → o ≡ user_in s (block_of (read_placed_of none s)) k
walker_yields s at end which b k o = go (block_of (read_placed_of none s)) refl b
  where
    go : (u : Option (Row × Span)) → block_of (read_placed_of none s) ≡ u → (at, (end, table_row which)) ≡ spread u → Yields (table_row which) (front s end) at k o → o ≡ user_in s u k
    go none i e y = over_none s k o (subst (λ (z : ℕ × (ℕ × Row)). Yields z.1.1 (front s z.1.0) z.0 k o) e y)
    go (some (row, p)) i e y =
        let (ps, j) = read_block s (read_placed_of none s) refl row p i in
        over_block s row p ps j k o (subst (λ (z : ℕ × (ℕ × Row)). Yields z.1.1 (front s z.1.0) z.0 k o) e y)

-- ---- one answer only

-- from an index on one answer comes next, and the walk stands at one index then
pub next_one : {row : Row} {s : List ℕ} {at m m' : ℕ} {o o' : Fit (Val Span)} → Next row s at o m → Next row s at o' m' → (o ≡ o') × (m ≡ m')
next_one (here e) (here e') =
    let q = got_inj (sym e ∙ e') in
    (ap (λ (z : PropOf Span × ℕ). got z.0.1) q, ap (λ (z : PropOf Span × ℕ). z.1) q)
next_one (here e) (other {i = i} e' h w) = absurd (h (sym (ap (λ (z : PropOf Span × ℕ). z.0.0) (got_inj (sym e ∙ e')))))
next_one (here e) (done e') = absurd (bad_got (sym e' ∙ e))
next_one (other e h w) (here e') = absurd (h (ap (λ (z : PropOf Span × ℕ). z.0.0) (got_inj (sym e ∙ e'))))
next_one {row = row} {s = s} {m' = m'} {o' = o'} (other e h w) (other e' h' w') =
    next_one w (subst (λ (k : ℕ). Next row s k o' m') (sym (ap (λ (z : PropOf Span × ℕ). z.1) (got_inj (sym e ∙ e')))) w')
next_one (other e h w) (done e') = absurd (bad_got (sym e' ∙ e))
next_one (done e) (here e') = absurd (bad_got (sym e ∙ e'))
next_one (done e) (other e' h w) = absurd (bad_got (sym e ∙ e'))
next_one (done e) (done e') = (refl, refl)
