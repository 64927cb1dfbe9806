-- What stands at an index of a block or run that ends at `end` of the stream. Assumes nothing.
use Rattle.std.specs.Prelude.{List, ℕ, leb, length, take}
use Rattle.grammar.specs.Record.{PropOf, Filter}
use Rattle.reading.specs.Reader.{Fit, ◌>>◌, guard}
use Rattle.reading.specs.Read.{text_of, filter_of}
use Rattle.reading.specs.Place.{Span, as_places, no_item}
use Rattle.positions.specs.Position.{from_at}
use Rattle.c_arguments.specs.Kind.{property_at}

-- D2: "The port confines each read to the block": f of the bytes before `end`; 01, row 21: an end that is not "of the lent bytes"
unfoldable pub up_to : {A : Type 0} → (List ℕ → Fit A) → List ℕ → ℕ → Fit A
up_to f s end = do
  guard (leb end (length s)) no_item
  f (take end s)

-- header, `ecch_property`
abbrev pub property_up_to : ℕ → List ℕ → ℕ → ℕ → Fit (PropOf Span × ℕ)
property_up_to kind s at end = up_to (λ t. property_at kind t at) s end

-- header, `ecch_next_filter`
abbrev pub filter_up_to : List ℕ → ℕ → ℕ → Fit (Filter Span × ℕ)
filter_up_to s at end = up_to (λ t. from_at (filter_of as_places (length t)) t at) s end

-- 02, P1: header, `ecch_next_topic`
abbrev pub topic_up_to : List ℕ → ℕ → ℕ → Fit (Span × ℕ)
topic_up_to s at end = up_to (λ t. from_at (text_of as_places (length t)) t at) s end
