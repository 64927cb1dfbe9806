-- A block at an index of a slice: its length, then what fills it; one law over the row. Assumes nothing.
use mathlib.Core.Path.{◌≡◌, refl, sym, ap, ◌∙◌}
use mathlib.Core.Option.{Option, none, some}
use mathlib.Core.List.{List, [], ◌∷◌}
use Prim.Native.Nat.{ℕ, ◌+◌, ◌-◌, ◌≤◌, ◌<◌}
use native.Mathlib.Omega.{arith}
use lib.ListN.{length, take, drop, length-drop}
use lib.Seq.{length-take-le}
use Rattle.reading.specs.Refusal.{Refusal, nr, cut, crossed}
use Rattle.reading.specs.Reader.{Fit, got, bad, Filler, ◌>>=◌, sized_of, is_fit, hand_fit}
use Rattle.reading.specs.Read.{num_of, any_bytes, string_fit, properties_fit, block_of}
use Rattle.reading.specs.Place.{Span, as_places, on_got}
use Rattle.reading.proofs.Reading.{bad_got}
use Rattle.positions.specs.Position.{from_at}
use Rattle.positions.proofs.At.{sized_bad, sized_crossed, sized_at_lem, span_at, part_slice}
use Rattle.positions.proofs.Behind.{Way, short, crosses, stands, way, Stands, read_stands}
use Rattle.positions.proofs.Trails.{trails_num}
use Rattle.positions.proofs.Position.{got_left, got_within, bad_left, left_bad}
use Rattle.properties.specs.Block.{extent_of, RowRecord, loop_from, filled_at}
use Rattle.properties.proofs.Laws.Fold.{Lawful, block_as, loop_on, block_none, block_some}

bad_inj : {A : Type 0} {k k' : Refusal} → ◌≡◌ {A = Fit A} (bad k) (bad k') → k ≡ k'
bad_inj e = cc

-- the record of a block, and the index after it
then_end : {B : Type 0} (n : ℕ) (m : Fit B) → ◌≡◌ {A = Fit (Option B × ℕ)} (on_got (λ a. (a, n)) (on_got some m)) (on_got (λ o. (some o, n)) m)
then_end n (got o) = refl
then_end n (bad k) = refl

-- ---- a length L, and what fills L bytes

-- the length at an index
abbrev length_at : List ℕ → ℕ → Fit (ℕ × ℕ)
length_at s at = from_at (num_of cut 4) s at

-- a length that was read ends within the slice
pub length_within : (s : List ℕ) (at l m : ℕ) → got (l, m) ≡ length_at s at → m ≤ length s
length_within s at l m e = got_within (num_of cut 4) s at (trails_num cut 4) l m (sym e)

-- a length and what q makes of as many bytes
abbrev sized_at : {A : Type 0} → (ℕ → Filler A) → List ℕ → ℕ → Fit (A × ℕ)
sized_at q s at = from_at (sized_of (num_of cut 4) crossed q (length s)) s at

module _ {A : Type 0} (q : ℕ → Filler A) (s : List ℕ) (at : ℕ) where
  sized_short : (k : Refusal) → bad k ≡ length_at s at → bad k ≡ sized_at q s at
  sized_short k e = sym (left_bad (sized_of (num_of cut 4) crossed q (length s)) s at k (sized_bad (num_of cut 4) crossed q (length s) s at k (bad_left (num_of cut 4) s at k (sym e))))

  module _ (l m : ℕ) (e : got (l, m) ≡ length_at s at) where
    length_left : num_of cut 4 (drop at s) ≡ got (l, drop m s)
    length_left = got_left (num_of cut 4) s at (trails_num cut 4) l m (sym e)

    sized_over : length s < m + l → bad (nr 8 (l ∷ [])) ≡ sized_at q s at
    sized_over o =
        sym (left_bad (sized_of (num_of cut 4) crossed q (length s)) s at (nr 8 (l ∷ [])) (sized_crossed (num_of cut 4) crossed q (length s) s at l m length_left (length_within s at l m e) o))

    sized_within : m + l ≤ length s → sized_at q s at ≡ on_got (λ a. (a, m + l)) (q (m + l) (take l (drop m s)))
    unfolding from_at
    sized_within o =
        rw (sized_at_lem (num_of cut 4) crossed q (length s) s at l m length_left (length_within s at l m e) o refl) (last (q (m + l) (take l (drop m s))))
      where
        n : length s - length (drop (m + l) s) ≡ m + l
        n = rw length-drop (omega arith)

        left : Fit A → Fit (A × List ℕ)
        left f = f >>= λ a. got (a, drop (m + l) s)

        last : (f : Fit A) → ◌≡◌ {A = Fit (A × ℕ)} (left f >>= λ z. got (z.0, length s - length z.1)) (on_got (λ a. (a, m + l)) f)
        last (got a) = rw n
        last (bad k) = refl

-- ---- where a block stands

module _ (s : List ℕ) (at : ℕ) where
  pub room_short : (k : Refusal) → bad k ≡ length_at s at → bad k ≡ from_at (extent_of (length s)) s at
  unfolding extent_of
  room_short = sized_short (string_fit as_places any_bytes cut) s at

  pub room_over : (l m : ℕ) → got (l, m) ≡ length_at s at → length s < m + l → bad (nr 8 (l ∷ [])) ≡ from_at (extent_of (length s)) s at
  unfolding extent_of
  room_over = sized_over (string_fit as_places any_bytes cut) s at

  pub room_within : (l m : ℕ) → got (l, m) ≡ length_at s at → m + l ≤ length s → got (record { start = m; len = l }, m + l) ≡ from_at (extent_of (length s)) s at
  unfolding extent_of string_fit hand_fit is_fit
  room_within l m e o = sym (sized_within (string_fit as_places any_bytes cut) s at l m e o ∙ rw (span_at s l m o))

  -- a block that has room stands
  room_stands : (z : Span × ℕ) → got z ≡ from_at (extent_of (length s)) s at → Stands (length_at s at) (length s) z
  room_stands = read_stands (length_at s at) (length s) (from_at (extent_of (length s)) s at) room_short room_over room_within

  pub room_inside : {z : Span × ℕ} → got z ≡ from_at (extent_of (length s)) s at → z.1 ≤ length s
  room_inside {z = z} e = (room_stands z e).within

  -- ---- the block there, of a row

  module _ (w : RowRecord) where
    abbrev pub block_at : Fit (Option w.Props × ℕ)
    block_at = from_at (block_of as_places w.row (block_as w) (length s)) s at

    -- what has no room is no block
    pub block_bad : {k : Refusal} → bad k ≡ from_at (extent_of (length s)) s at → bad k ≡ block_at
    unfolding block_of
    block_bad {k = k} e = go (way (length_at s at) (length s))
      where
        go : Way (length_at s at) (length s) → bad k ≡ sized_at (hand_fit (block_as w) (properties_fit as_places w.row)) s at
        go (short k' v) = ap bad (bad_inj (e ∙ sym (room_short k' v))) ∙ sized_short (hand_fit (block_as w) (properties_fit as_places w.row)) s at k' v
        go (crosses l m v o) = ap bad (bad_inj (e ∙ sym (room_over l m v o))) ∙ sized_over (hand_fit (block_as w) (properties_fit as_places w.row)) s at l m v o
        go (stands l m v o) = absurd (bad_got (e ∙ sym (room_within l m v o)))

  module _ {w : RowRecord} (W : Lawful w) {z : Span × ℕ} (r : got z ≡ from_at (extent_of (length s)) s at) where
    h : Stands (length_at s at) (length s) z
    h = room_stands z r

    -- 01: "L = 0 means absent"
    pub block_absent : z.0.len ≡ 0 → got (none, z.1) ≡ block_at w
    unfolding block_of
    block_absent e =
        let i : z.0.start + 0 ≡ z.1 = omega (arith, h.ends) in
        sym (
        sized_within (hand_fit (block_as w) (properties_fit as_places w.row)) s at z.0.len z.0.start h.size (omega (arith, h.ends, h.within))
        ∙ rw (e, block_none w W (z.0.start + 0), i)
        )

    -- else properties fill the slice that ends where the block does
    pub block_present : (z.0.len ≡ 0 → ⊥) → filled_at w (take z.1 s) z.0 ≡ block_at w
    unfolding block_of filled_at loop_from
    block_present ne =
        let pos : 0 < z.0.len = omega (arith, ne) in
        let o : z.0.start + z.0.len ≤ length s = omega (arith, h.ends, h.within) in
        let n : length (take (z.0.start + z.0.len) s) ≡ z.0.start + z.0.len = length-take-le (z.0.start + z.0.len) s o in
        let i : 0 < length (take z.0.len (drop z.0.start s)) = rw (length-take-le z.0.len (drop z.0.start s) (rw length-drop (omega arith))) pos in
        sym (
        sized_within (hand_fit (block_as w) (properties_fit as_places w.row)) s at z.0.len z.0.start h.size o
        ∙ rw (block_some w W (z.0.start + z.0.len) (take z.0.len (drop z.0.start s)) i, span_at s z.0.len z.0.start o, part_slice s z.0.len z.0.start o, h.ends, n)
        (then_end (z.0.start + z.0.len) (loop_on w (z.0.start + z.0.len) (w.made z.0 []) [] (drop z.0.start (take (z.0.start + z.0.len) s))))
        )
