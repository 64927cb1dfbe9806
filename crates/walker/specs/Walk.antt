-- The user properties of a frame, one after another: what a walker yields, and where it stands then. Assumes nothing.
use Rattle.std.specs.Prelude as std
use Rattle.std.specs.Prelude.{◌≡◌, List, [], ℕ, zero, suc, ◌+◌, ◌≤◌, length, Some, None}
use Rattle.std.proofs.Math.Option.{Option, none, some}
use Rattle.grammar.specs.Record.{Val, PropOf, publish, ack, subscribe, reply, unsubscribe, ping}
use Rattle.grammar.specs.Tables.{Row, publish_row, subscribe_row, ack_row, unsubscribe_row}
use Rattle.reading.specs.Refusal.{Answer, accepted, refused}
use Rattle.reading.specs.Reader.{Fit, got, bad}
use Rattle.reading.specs.Read.{property_of}
use Rattle.reading.specs.Place.{Span, held_of, as_places, Placed, read_placed_of, no_item, user_at, on_some}
use Rattle.positions.specs.Position.{from_at}
use Rattle.tables.specs.Property.{table_row}
use Rattle.tables.specs.declared.property.PropertyRow.{PropertyRow}
use Rattle.records.specs.AsNumbers.{told_span}
use Rattle.records.specs.Answered.{told_user}
use Rattle.property_value.specs.OneProperty.{told_value, form_of}
use Rattle.property_value.specs.declared.Value.{Value}
use Rattle.grammar.specs.Tables as tables
use Rattle.walker.specs.declared.Walker.{Walker}
use Rattle.records.specs.declared.span.Span.{Span as CodeSpan}

-- 01, grammar: "an identifier byte and a value", from index `at` of s on
abbrev pub property_at : Row → List ℕ → ℕ → Fit (PropOf Span × ℕ)
property_at row s at = from_at (property_of as_places row (length s)) s at

-- 02, P7: "yields user properties one after another": from index `at` of s on o comes next, and then the walk stands at m; 21 where no property follows
pub data Next (row : Row) (s : List ℕ) : ℕ → Fit (Val Span) → ℕ → Type 0 where
  here : {at m : ℕ} {v : Val Span} → property_at row s at ≡ got ((38, v), m) → Next row s at (got v) m
  other : {at n m i : ℕ} {v : Val Span} {o : Fit (Val Span)} → property_at row s at ≡ got ((i, v), n) → (i ≡ 38 → ⊥) → Next row s n o m → Next row s at o m
  done : {at : ℕ} {k : _} → property_at row s at ≡ bad k → Next row s at (bad no_item) at

-- 02, P7: "holds the frame": a walk over the bytes before index `end` of the frame s; there are none where the frame ends before
abbrev pub Goes : PropertyRow → List ℕ → ℕ → ℕ → std.Option (CodeSpan × CodeSpan) → ℕ → Type 0
Goes which s end at r m = Next (table_row which) (held_of s (record { start = 0; len = end })) at (told_user r) m

-- the contract of `next`: r comes next in the walk w, and the walker v that is left stands behind it and is w else
abbrev pub Moves : Walker → std.Option (CodeSpan × CodeSpan) → Walker → Type 0
Moves w r v = (v.frame ≡ w.frame) × ((v.end ≡ w.end) × ((v.which ≡ w.which) × Goes w.which w.frame.now w.end w.at r v.at))

-- 01, table of properties: 38 is a pair
pub record UserOf (v : Value) (r : std.Option (CodeSpan × CodeSpan)) : Type 0 where
  pub says : form_of v ≡ tables.pair → told_user r ≡ got (told_value v)

-- 01, grammar: the block of a record, where its user properties stand, with its row; none for a ping
abbrev pub block_in : Placed → Option (Row × Span)
block_in (publish m) = on_some (λ ps. (publish_row, ps.user)) m.props
block_in (ack k m) = on_some (λ ps. (ack_row, ps.user)) m.props
block_in (subscribe m) = on_some (λ ps. (subscribe_row, ps.user)) m.props
block_in (reply k m) = on_some (λ ps. (ack_row, ps.user)) m.props
block_in (unsubscribe m) = on_some (λ ps. (unsubscribe_row, ps.user)) m.props
block_in (ping k) = none

-- a block in a row, if it stands at a place
abbrev pub place_in : PropertyRow → std.Option CodeSpan → Option (Row × Span)
place_in which None = none
place_in which (Some p) = some (table_row which, told_span p)

-- 02, P7: "the walker yields nothing on a frame the reader refuses"
abbrev pub block_of : Answer Placed → Option (Row × Span)
block_of (accepted v n) = block_in v
block_of (refused k vs n) = none

-- where a walk begins and ends, and the row; a walk over nothing where there is no block
abbrev pub spread : Option (Row × Span) → ℕ × (ℕ × Row)
spread none = (0, (0, publish_row))
spread (some (row, p)) = (p.start, (p.start + p.len, row))

-- the walk over the user properties of the frame at the start of s, read with no limit, begins at `at`, in a row, and ends at `end`
abbrev pub Begins : List ℕ → ℕ → ℕ → PropertyRow → Type 0
Begins s at end which = (at, (end, table_row which)) ≡ spread (block_of (read_placed_of none s))

-- a block that lies within s is walked from its start to its end
pub record Spread (s : List ℕ) (o : Option (Row × Span)) (at end : ℕ) (which : PropertyRow) : Type 0 where
  pub spreads : ((row : Row) (p : Span) → o ≡ some (row, p) → p.start + p.len ≤ length s) → (at, (end, table_row which)) ≡ spread o

-- ---- what a caller has

-- o is the k-th answer of a walk, k from 0
pub data Yields (row : Row) (s : List ℕ) : ℕ → ℕ → Fit (Val Span) → Type 0 where
  first : {at m : ℕ} {o : Fit (Val Span)} → Next row s at o m → Yields row s at zero o
  later : {at m k : ℕ} {o u : Fit (Val Span)} → Next row s at o m → Yields row s m k u → Yields row s at (suc k) u

-- 01: "the n-th pair", of the frame at the start of s; 21 past the last, where there is no block, and on a frame that is refused
abbrev pub user_in : List ℕ → Option (Row × Span) → ℕ → Fit (Val Span)
user_in s none k = bad no_item
user_in s (some (row, p)) k = user_at as_places s p row k
