-- The numbers that `ecch_read` stores begin the walk that the header says: ECCH_KIND, ECCH_BLOCK_START and ECCH_BLOCK_LEN. Assumes nothing.
use mathlib.Core.Path.{◌≡◌, refl, subst}
use mathlib.Core.Option.{Option, none, some}
use mathlib.Core.List.{List, [], map}
use Prim.Native.Nat.{ℕ, ◌+◌}
use lib.ListN.{length, get_or}
use Rattle.grammar.specs.Record.{Val, PublishProps, Props, publish, ack, subscribe, reply, unsubscribe, ping}
use Rattle.grammar.specs.Tables.{Row, publish_row, row_of_kind}
use Rattle.reading.specs.Refusal.{Answer, accepted, refused}
use Rattle.reading.specs.Reader.{Fit, got}
use Rattle.reading.specs.Place.{Span, Placed, read_placed_of, on_some}
use Rattle.reading.specs.Bounds.{bounds_of}
use Rattle.records.specs.declared.span.Bounds.{Bounds}
use Rattle.c_layout_read.specs.Block.{publish_block, props_block}
use Rattle.c_layout_read.specs.Record.{packet_numbers, bounds_at, encoded}
use Rattle.walker.specs.Walk.{block_in, block_of}
use Rattle.walker.specs.Calls.{answers_of, users_in}
use Rattle.c_walk.specs.Calls.{Calls, heard, to_hear, kind_in}
use Rattle.c_walk.proofs.Calls.{none_yield, c_calls_yield}

-- where a block stands: its start, and its bytes; 0 and 0 where there is none
abbrev placed : Option (Row × Span) → ℕ × ℕ
placed none = (0, 0)
placed (some z) = (z.1.start, z.1.len)

publish_place : (o : Option (PublishProps Span (λ A. Span))) → ◌≡◌ {A = ℕ × ℕ} ((publish_block o).place.start, (publish_block o).place.len) (placed (on_some (λ ps. (publish_row, ps.user)) o))
publish_place none = refl
publish_place (some p) = refl

props_place : (row : Row) (o : Option (Props Span (λ A. Span))) → ◌≡◌ {A = ℕ × ℕ} ((props_block o).place.start, (props_block o).place.len) (placed (on_some (λ ps. (row, ps.user)) o))
props_place row none = refl
props_place row (some p) = refl

-- what is stored of a record at the three indices
stored_kind : (n : ℕ) (b : Bounds) (v : Placed) → get_or (packet_numbers n b v) 3 0 ≡ kind_in v
unfolding packet_numbers
stored_kind n b (publish m) = refl
stored_kind n b (ack k m) = refl
stored_kind n b (subscribe m) = refl
stored_kind n b (reply k m) = refl
stored_kind n b (unsubscribe m) = refl
stored_kind n b (ping k) = refl

stored_place : (n : ℕ) (b : Bounds) (v : Placed) → ◌≡◌ {A = ℕ × ℕ} (get_or (packet_numbers n b v) 16 0, get_or (packet_numbers n b v) 17 0) (placed (block_in v))
unfolding packet_numbers
stored_place n b (publish m) = publish_place m.props
stored_place n b (ack k m) = props_place _ m.props
stored_place n b (subscribe m) = props_place _ m.props
stored_place n b (reply k m) = props_place _ m.props
stored_place n b (unsubscribe m) = props_place _ m.props
stored_place n b (ping k) = refl

module _ (s : List ℕ) (rs : List (ℕ × List ℕ)) where
  -- the calls tell the user properties that u says
  abbrev Told : Option (Row × Span) → Type 0
  Told u = (vs : List (Val Span)) × (users_in s u ≡ got vs) × (map heard rs ≡ map to_hear (answers_of (length rs) vs))

  record_yield : (limit : Option ℕ) (v : Placed) (n : ℕ) → read_placed_of limit s ≡ accepted v n → (u : Option (Row × Span)) → block_in v ≡ u → Calls (row_of_kind (kind_in v)) s ((placed u).0 + (placed u).1) (placed u).0 rs → Told u
  record_yield limit v n e none i c = ([], refl, none_yield s (row_of_kind (kind_in v)) c)
  record_yield limit v n e (some (row, p)) i c = c_calls_yield limit s v n e row p i c

  starts : (limit : Option ℕ) (a : Answer Placed) → read_placed_of limit s ≡ a → (f : Fit (ℕ × ℕ)) → Calls (row_of_kind (get_or (encoded a f) 3 0)) s (get_or (encoded a f) 16 0 + get_or (encoded a f) 17 0) (get_or (encoded a f) 16 0) rs → Told (block_of a)
  unfolding encoded
  starts limit (refused k vs n) e f c = ([], refl, none_yield s (row_of_kind 0) c)
  starts limit (accepted v n) e f c =
      let d = subst (λ (k : ℕ). Calls (row_of_kind k) s (get_or (packet_numbers n (bounds_at f) v) 16 0 + get_or (packet_numbers n (bounds_at f) v) 17 0) (get_or (packet_numbers n (bounds_at f) v) 16 0) rs) (stored_kind n (bounds_at f) v) c in
      record_yield limit v n e (block_in v) refl (subst (λ (z : ℕ × ℕ). Calls (row_of_kind (kind_in v)) s (z.0 + z.1) z.0 rs) (stored_place n (bounds_at f) v) d)

  -- header: "hand over the same stream and ECCH_KIND, begin at ECCH_BLOCK_START, and let `end` be ECCH_BLOCK_START + ECCH_BLOCK_LEN": 3, 16 and 17 of what `ecch_read` stores
  pub header_yield : (limit : Option ℕ) (r : List ℕ) → r ≡ encoded (read_placed_of limit s) (bounds_of limit s) → Calls (row_of_kind (get_or r 3 0)) s (get_or r 16 0 + get_or r 17 0) (get_or r 16 0) rs → Told (block_of (read_placed_of limit s))
  header_yield limit r h c = starts limit (read_placed_of limit s) refl (bounds_of limit s) (subst (λ (q : List ℕ). Calls (row_of_kind (get_or q 3 0)) s (get_or q 16 0 + get_or q 17 0) (get_or q 16 0) rs) h c)
