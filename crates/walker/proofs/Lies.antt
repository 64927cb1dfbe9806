-- The block of a record that was read lies within the stream, and is read again there; so a walk over it begins as it should. Assumes nothing.
use mathlib.Core.Path.{◌≡◌, refl, sym, ap, ◌∙◌, subst}
use mathlib.Core.Bool.{Bool, true, false}
use mathlib.Core.Option.{Option, none, some}
use mathlib.Core.List.{List}
use Prim.Native.Nat.{ℕ, ◌+◌, ◌≤◌}
use native.Mathlib.Omega.{arith}
use lib.Dec.{leb→le}
use lib.ListN.{length}
use Rattle.grammar.specs.Record.{PropOf, PublishProps, Props, publish, ack, subscribe, reply, unsubscribe, ping}
use Rattle.grammar.specs.Sentence.{Value, Packet}
use Rattle.grammar.specs.Tables.{Row, publish_row, subscribe_row, ack_row, unsubscribe_row}
use Rattle.reading.specs.Refusal.{Refusal, nr, Answer, accepted, refused, refused_as}
use Rattle.reading.specs.Reader.{Fit, got, bad, Filler, ◌>>◌, guard}
use Rattle.reading.specs.Read.{as_bytes, properties_fit}
use Rattle.reading.specs.Place.{Span, part_of, lies_in, as_places, Placed, read_placed_of, no_item, or_no_item, again, values_at, on_got, on_some, if_some, say_publish_props, say_props, say}
use Rattle.reading.proofs.Lists.{T_of}
use Rattle.reading.proofs.Reading.{bad_got, got_inj, from_bind}
use Rattle.reading.proofs.Forget.{Like, gots, bads}
use Rattle.reading.proofs.Places.{properties_says, placed_accepted}
use Rattle.reading.proofs.Items.{again_like}
use Rattle.records.specs.AsNumbers.{told_error}
use Rattle.records.specs.Said.{told_packet}
use Rattle.records.specs.declared.error.Error.{Error}
use Rattle.records.specs.declared.packet_record.Packet as code
use Rattle.tables.specs.declared.property.PropertyRow.{PropertyRow}
use Rattle.walker.specs.Walk.{block_in, block_of, spread, Begins, Spread}

pub some_inj : {A : Type 0} {a b : A} → some a ≡ some b → a ≡ b
some_inj e = cc

pub no_some : {A : Type 0} {a : A} → none ≡ some a → ⊥
no_some e = let z : ◌≡◌ {A = ℕ} 0 1 = cc in omega arith

-- a list at a place lies within the bytes, and fills it
pub again_got : {A : Type 0} (q : ℕ → Filler A) (s : List ℕ) (p : Span) (v : A) → again q s p ≡ got v → (p.start + p.len ≤ length s) × (q (p.start + p.len) (part_of s p) ≡ got v)
unfolding again
again_got {A = A} q s p v = go (lies_in s p) refl (q (p.start + p.len) (part_of s p))
  where
    go : (t : Bool) → lies_in s p ≡ t → (m : Fit A) → (guard t no_item >> or_no_item m) ≡ got v → (p.start + p.len ≤ length s) × (m ≡ got v)
    go true h (got a) e = (leb→le (p.start + p.len) (length s) (T_of (lies_in s p) h), e)
    go true h (bad k) e = absurd (bad_got e)
    go false h m e = absurd (bad_got e)

-- where the second is a value, so is the first
like_there : {A B : Type 0} {R : A → B → Type 0} (m : Fit A) (m' : Fit B) (b : B) → Like R m m' → m' ≡ got b → (a : A) × (m ≡ got a) × R a b
like_there {R = R} _ _ b (gots {a = a} {b = b'} r) i = (a, refl, subst (R a) (got_inj i) r)
like_there _ _ b bads i = absurd (bad_got i)

module _ (s : List ℕ) where
  -- a block of a row stands at a place
  abbrev pub Block : Row → Span → Type 0
  Block row p = (ps : List (PropOf Span)) × (again (properties_fit as_places row) s p ≡ got ps)

  values_block : (row : Row) (p : Span) (i : ℕ) (us : List Value) → values_at as_bytes s p row i ≡ got us → Block row p
  unfolding values_at
  values_block row p i = from_bind {C = λ (_ : List Value). Block row p} (again (properties_fit as_bytes row) s p) _ λ qs e us _.
      let (ps, j, r) = like_there (again (properties_fit as_places row) s p) (again (properties_fit as_bytes row) s p) qs (again_like s (properties_says s row) p) e in
      (ps, j)

  -- so of what is present
  block_in_lem : {X Y : Type 0} (f : X → Fit Y) (row : Row) (at : X → Span) → ((x : X) (y : Y) → f x ≡ got y → Block row (at x))
      → (o : Option X) (z : Option Y) → if_some f o ≡ got z → (row' : Row) (p : Span) → on_some {B = Row × Span} (λ (x : X). (row, at x)) o ≡ some (row', p) → Block row' p
  block_in_lem f row at h none z e row' p i = absurd (no_some i)
  block_in_lem {X = X} {Y = Y} f row at h (some x) z e row' p i = go (f x) refl e
    where
      go : (m : Fit Y) → f x ≡ m → on_got some m ≡ got z → Block row' p
      go (got y) j _ = subst (λ (u : Row × Span). Block u.0 u.1) (some_inj i) (h x y j)
      go (bad k) j e = absurd (bad_got e)

  publish_block_lem : (ps : PublishProps Span (λ A. Span)) (qs : PublishProps (List ℕ) List) → say_publish_props s ps ≡ got qs → Block publish_row ps.user
  publish_block_lem ps = from_bind {C = λ (_ : PublishProps (List ℕ) List). Block publish_row ps.user} (values_at as_bytes s ps.user publish_row 38) _ λ us e qs _. values_block publish_row ps.user 38 us e

  props_block_lem : (row : Row) (ps : Props Span (λ A. Span)) (qs : Props (List ℕ) List) → say_props s row ps ≡ got qs → Block row ps.user
  props_block_lem row ps = from_bind {C = λ (_ : Props (List ℕ) List). Block row ps.user} (values_at as_bytes s ps.user row 38) _ λ us e qs _. values_block row ps.user 38 us e

  pub said_block : (v : Placed) (w : Packet) → say s v ≡ got w → (row : Row) (p : Span) → block_in v ≡ some (row, p) → Block row p
  said_block (publish m) = from_bind (if_some (say_publish_props s) m.props) _ λ qs e w _. block_in_lem (say_publish_props s) publish_row (λ ps. ps.user) publish_block_lem m.props qs e
  said_block (ack k m) = from_bind (if_some (say_props s ack_row) m.props) _ λ qs e w _. block_in_lem (say_props s ack_row) ack_row (λ ps. ps.user) (props_block_lem ack_row) m.props qs e
  said_block (subscribe m) = from_bind (if_some (say_props s subscribe_row) m.props) _ λ qs e w _. block_in_lem (say_props s subscribe_row) subscribe_row (λ ps. ps.user) (props_block_lem subscribe_row) m.props qs e
  said_block (reply k m) = from_bind (if_some (say_props s ack_row) m.props) _ λ qs e w _. block_in_lem (say_props s ack_row) ack_row (λ ps. ps.user) (props_block_lem ack_row) m.props qs e
  said_block (unsubscribe m) = from_bind (if_some (say_props s unsubscribe_row) m.props) _ λ qs e w _. block_in_lem (say_props s unsubscribe_row) unsubscribe_row (λ ps. ps.user) (props_block_lem unsubscribe_row) m.props qs e
  said_block (ping k) = λ w e row p i. absurd (no_some i)

  -- the block of the record that is read
  pub read_block : (a : Answer Placed) → read_placed_of none s ≡ a → (row : Row) (p : Span) → block_of a ≡ some (row, p) → Block row p
  read_block (accepted v n) e row p i = let (w, j, _) = placed_accepted none s v n e in said_block v w j row p i
  read_block (refused k vs n) e row p i = absurd (no_some i)

  module _ {at end : ℕ} {which : PropertyRow} where
    pub begins_refused : (e : Error) (n : ℕ) → refused_as (told_error e) n ≡ read_placed_of none s → Spread s none at end which → Begins s at end which
    begins_refused e n i S = go (told_error e) i
      where
        go : (k : Refusal) → refused_as k n ≡ read_placed_of none s → Begins s at end which
        go (nr k vs) i = S.spreads (λ row p j. absurd (no_some j)) ∙ ap (λ (a : Answer Placed). spread (block_of a)) i

    pub begins_packet : (p : code.Packet) (n : ℕ) → accepted (told_packet p) n ≡ read_placed_of none s → Spread s (block_in (told_packet p)) at end which → Begins s at end which
    begins_packet p n i S =
        S.spreads (λ row b j. let (ps, k) = read_block (accepted (told_packet p) n) (sym i) row b j in (again_got (properties_fit as_places row) s b ps k).0)
        ∙ ap (λ (a : Answer Placed). spread (block_of a)) i
