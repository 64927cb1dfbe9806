-- What a property tells, and what the readers of one promise. Assumes nothing.
use Rattle.std.specs.Prelude.{◌≡◌, List, [], ◌∷◌, ℕ, length, Result, Ok, Err}
use Rattle.std.proofs.Math.Option.{Option, some}
use Rattle.grammar.specs.Record.{Val, num, str, duo, PropOf}
use Rattle.grammar.specs.Tables as tables
use Rattle.reading.specs.Reader.{Fit, Reader, only_of}
use Rattle.reading.specs.Read.{num_of, value_at, property_of}
use Rattle.reading.specs.Refusal.{nr, cut}
use Rattle.grammar.specs.Sentence.{not_zero}
use Rattle.reading.specs.Place.{as_places}
use Rattle.reading.specs.Place as place
use Rattle.positions.specs.Position.{from_at, next_or}
use Rattle.records.specs.AsNumbers.{told_by, told_span}
use Rattle.property_value.specs.declared.Value.{Value}
use Rattle.property_value.specs.declared.Value.TheVariants.{U8, U16, U32, Number, Text, Bytes, Pair}
use Rattle.property_value.specs.declared.GotProperty.{GotProperty}
use Rattle.property_value.specs.declared.GotProperty.TheVariants.{Found, Refused}
use Rattle.records.specs.declared.error.Error.{Error}

-- 01, table of properties: a number, a string or a text pair
abbrev pub told_value : Value → Val place.Span
told_value (U8 x) = num x
told_value (U16 x) = num x
told_value (U32 x) = num x
told_value (Number x) = num x
told_value (Text p) = str (told_span p)
told_value (Bytes p) = str (told_span p)
told_value (Pair p q) = duo (told_span p) (told_span q)

-- 01, table of properties: the form of a value
abbrev pub form_of : Value → tables.Form
form_of (U8 x) = tables.u8
form_of (U16 x) = tables.u16
form_of (U32 x) = tables.u32
form_of (Number x) = tables.number
form_of (Text p) = tables.text
form_of (Bytes p) = tables.bytes
form_of (Pair p q) = tables.pair

-- 01, grammar: "an identifier byte and a value", and the index after them; or the refusal
abbrev pub told_property : Result (ℕ × Value × ℕ) Error → Fit (PropOf place.Span × ℕ)
told_property = told_by (λ (k, v, n). ((k, told_value v), n))

-- the same answer as a Result
abbrev pub property_got : GotProperty → Result (ℕ × Value × ℕ) Error
property_got (Found k v n) = Ok (k, v, n)
property_got (Refused e) = Err e

-- 02, P9: "Property 11 with value 0 gets SubscriptionIdZero, after the number is read"
abbrev pub identifier_of : Reader ℕ
identifier_of = only_of not_zero (λ _. nr 23 []) (num_of cut 4)

-- where a value v is found with identifier k, it has the form that f gives k: so two forms that tell the same, as u8 and u16, are told apart
abbrev pub OfForm : (ℕ → Option tables.Form) → Result (ℕ × Value × ℕ) Error → Type 0
OfForm f (Ok (k, v, n)) = f k ≡ some (form_of v)
OfForm f (Err e) = Unit {0}

-- the value of property k from index `at` of s, of the form o if the row has the identifier
pub record ValueRead (o : Option tables.Form) (k : ℕ) (s : List ℕ) (at : ℕ) (r : Result (ℕ × Value × ℕ) Error) : Type 0 where
  pub says : told_property r ≡ from_at (value_at as_places o k (length s)) s at
  pub typed : OfForm (λ _. o) r

-- the property at index `at` of s, in the row of a kind of packet
pub record PropertyRead (row : tables.Row) (s : List ℕ) (at : ℕ) (r : Result (ℕ × Value × ℕ) Error) : Type 0 where
  pub says : told_property r ≡ from_at (property_of as_places row (length s)) s at
  pub typed : OfForm (tables.form_at row) r

-- 01, grammar: "38, and 11 in Publish, are lists kept in order": their entries in row Publish
abbrev pub publish_lists : tables.Row
publish_lists = record { forms = (38, tables.pair) ∷ (11, tables.number) ∷ []; lists = 38 ∷ 11 ∷ [] }

-- the index after a value of the form f at `start`; `at` if none stands there
pub record ValuePassed (f : tables.Form) (k : ℕ) (s : List ℕ) (at start r : ℕ) : Type 0 where
  pub says : r ≡ next_or at (from_at (value_at as_places (some f) k (length s)) s start)

-- the index after the property at index `at` of s, in a row; `at` if none stands there
pub record PropertyPassed (row : tables.Row) (s : List ℕ) (at r : ℕ) : Type 0 where
  pub says : r ≡ next_or at (from_at (property_of as_places row (length s)) s at)
