-- What C asks by the number of a kind. Assumes nothing.
use Rattle.std.specs.Prelude.{◌≡◌, List, ℕ, length, Result}
use Rattle.std.proofs.Math.Option.{Option, none, some}
use Rattle.grammar.specs.Choice.{lookup}
use Rattle.grammar.specs.Tables.{Form, Row, form_at, Layout, a_publish, an_ack, a_subscribe, a_reply, an_unsubscribe, a_ping, kinds, row_of_kind}
use Rattle.grammar.specs.Record.{Val, PropOf}
use Rattle.reading.specs.Reader.{Fit, bad}
use Rattle.reading.specs.Read.{property_of}
use Rattle.reading.specs.Place.{Span, as_places, no_item, user_at, reason_at}
use Rattle.positions.specs.Position.{from_at}
use Rattle.property_value.specs.OneProperty.{told_property, OfForm}
use Rattle.property_value.specs.declared.Value.{Value}
use Rattle.records.specs.declared.error.Error.{Error}

-- of the kind's row, if it has one
abbrev pub user_in : Option Row → List ℕ → Span → ℕ → Fit (Val Span)
user_in none s p n = bad no_item
user_in (some row) s p n = user_at as_places s p row n

-- header: "`kind` is 3 to 11; any other is 21"
abbrev pub user_of : ℕ → List ℕ → Span → ℕ → Fit (Val Span)
user_of kind = user_in (row_of_kind kind)

-- the property at index `at` of s in a kind's row, if it has one
abbrev pub property_in : Option Row → List ℕ → ℕ → Fit (PropOf Span × ℕ)
property_in none s at = bad no_item
property_in (some row) s at = from_at (property_of as_places row (length s)) s at

-- header: "`kind` is 3 to 11; any other is 21"
abbrev pub property_at : ℕ → List ℕ → ℕ → Fit (PropOf Span × ℕ)
property_at kind = property_in (row_of_kind kind)

-- 01, table of properties: the form of property k in a kind's row, if it has one
abbrev pub form_in : Option Row → ℕ → Option Form
form_in none k = none
form_in (some row) k = form_at row k

-- the contract of `property_at`: as `PropertyRead`, in the row of the kind
pub record PropertyGiven (kind : ℕ) (s : List ℕ) (at : ℕ) (r : Result (ℕ × Value × ℕ) Error) : Type 0 where
  pub says : told_property r ≡ property_at kind s at
  pub typed : OfForm (form_in (row_of_kind kind)) r

-- 02, P1: the reasons that a layout has as entries, if it has them
abbrev pub entries_in : Option Layout → Option (List ℕ)
entries_in none = none
entries_in (some a_publish) = none
entries_in (some (an_ack rs)) = none
entries_in (some a_subscribe) = none
entries_in (some (a_reply rs)) = some rs
entries_in (some an_unsubscribe) = none
entries_in (some a_ping) = none

-- the n-th reason, where the kind's reasons are rs
abbrev pub reason_among : Option (List ℕ) → List ℕ → Span → ℕ → Fit ℕ
reason_among none s p n = bad no_item
reason_among (some rs) s p n = reason_at s p rs n

-- header, `ecch_reason`: "`kind` is 9 or 11; any other is 21"
abbrev pub reason_given : ℕ → List ℕ → Span → ℕ → Fit ℕ
reason_given kind = reason_among (entries_in (lookup kinds kind))
