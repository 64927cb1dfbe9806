-- The answers of the leaves: numbers, strings, qualities of service, headers, kinds, and one property. Assumes nothing.
use Rattle.std.specs.Prelude as std
use Rattle.std.specs.Prelude.{Some, None, Result, Ok, Err}
use mathlib.Core.Path.{◌≡◌, refl, sym, ap, ◌∙◌}
use mathlib.Core.Bool.{Bool, true, false, cond}
use mathlib.Core.Option.{Option, none, some}
use mathlib.Core.List.{List, [], ◌∷◌}
use Prim.Native.Nat.{ℕ, ◌-◌}
use native.Mathlib.Omega.{arith}
use lib.Dec.{eqb}
use Rattle.grammar.specs.Tables.{Form, u8, u16, u32, number, text, bytes, pair, Forms, Row, publish_row, subscribe_row, ack_row, unsubscribe_row, form_at, Layout, a_publish, an_ack, a_subscribe, a_reply, an_unsubscribe, a_ping, row_of_kind}
use Rattle.grammar.specs.Record.{Val, num, str, duo, PropOf}
use Rattle.reading.specs.Refusal.{nr, cut}
use Rattle.reading.specs.Reader.{Fit, got, bad}
use Rattle.reading.specs.Place as place
use Rattle.reading.proofs.Reading.{bad_got, got_inj}
use Rattle.records.specs.AsNumbers.{told_error, told_qos, back_span}
use Rattle.records.proofs.AsNumbers.{error_injective, back_qos, back_qos_lem, back_ack_kind, back_ack_kind_lem, back_reply_kind, back_reply_kind_lem, back_span_lem, number_in}
use Rattle.records.specs.declared.span.Span.{Span}
use Rattle.numbers.specs.NumberRead.{told_got_number}
use Rattle.var_length.specs.Length.{told_length}
use Rattle.var_length.specs.declared.LengthError.{LengthError}
use Rattle.wire.specs.StringRead.{told_part}
use Rattle.tables.specs.Qos.{told_got_qos}
use Rattle.tables.specs.Property.{table_row, told_form}
use Rattle.tables.specs.declared.property.PropertyForm.{PropertyForm}
use Rattle.tables.specs.declared.property.PropertyRow.{PropertyRow}
use Rattle.kinds.specs.Kinds.{told_kind, told_row}
use Rattle.framing.specs.HeaderRead.{header_in, told_header, told_checked, frame_at}
use Rattle.framing.proofs.Laws as frame
use Rattle.kinds.specs.declared.Kind.{Kind}
use Rattle.property_value.specs.OneProperty.{told_value, form_of, told_property, property_got, OfForm, PropertyRead}
use Rattle.property_value.specs.declared.GotProperty.{GotProperty}
use Rattle.property_value.specs.declared.Value.{Value}
use Rattle.c_arguments.specs.UpTo.{property_up_to}
use Rattle.c_arguments.specs.Kind.{property_at, form_in, PropertyGiven}
use Rattle.promises.specs.OneResult.{OneResult}
use Rattle.promises.proofs.OneLaws.{one_by, one_told}
use Rattle.records.specs.declared.error.Error.{Error}
use Rattle.framing.specs.declared.header.FixedHeader.{FixedHeader}

-- ---- numbers

-- of any width
pub number_same : OneResult told_got_number
number_same = one_told (λ z. z) Ok (λ z. refl)

module _ (at : ℕ) where
  back_length : Fit (ℕ × ℕ) → Result (ℕ × ℕ) LengthError
  back_length (got z) = Ok (z.0, z.1 - at)
  back_length (bad (nr k vs)) = cond (eqb k 2) (Err LengthError.Long) (Err LengthError.Cut)

  back_length_lem : (r : Result (ℕ × ℕ) LengthError) → back_length (told_length cut at r) ≡ r
  unfolding back_length
  back_length_lem (Ok (n, count)) = ap (λ (k : ℕ). Ok (n, k)) (omega arith)
  back_length_lem (Err LengthError.Cut) = refl
  back_length_lem (Err LengthError.Long) = refl

  -- the contract of `length` speaks of every refusal of a number cut off: that of a frame leaves no choice already
  pub length_same : OneResult (told_length cut at)
  length_same = one_by (told_length cut at) back_length back_length_lem

-- ---- strings

pub part_same : OneResult told_part
part_same = one_told _ (λ z. Ok (back_span z.0, z.1)) (λ z. ap (λ (q : Span). Ok (q, z.1)) (back_span_lem z.0))

-- ---- a quality of service, and the form of a property

pub qos_same : OneResult told_got_qos
qos_same = one_told told_qos (λ n. Ok (back_qos n)) (λ q. ap Ok (back_qos_lem q))

pub back_form : Option Form → std.Option PropertyForm
back_form none = None
back_form (some u8) = Some PropertyForm.U8
back_form (some u16) = Some PropertyForm.U16
back_form (some u32) = Some PropertyForm.U32
back_form (some number) = Some PropertyForm.Number
back_form (some text) = Some PropertyForm.Text
back_form (some bytes) = Some PropertyForm.Bytes
back_form (some pair) = Some PropertyForm.Pair

pub back_form_lem : (f : std.Option PropertyForm) → back_form (told_form f) ≡ f
unfolding back_form
back_form_lem (Some PropertyForm.U8) = refl
back_form_lem (Some PropertyForm.U16) = refl
back_form_lem (Some PropertyForm.U32) = refl
back_form_lem (Some PropertyForm.Number) = refl
back_form_lem (Some PropertyForm.Text) = refl
back_form_lem (Some PropertyForm.Bytes) = refl
back_form_lem (Some PropertyForm.Pair) = refl
back_form_lem None = refl

pub form_same : OneResult told_form
form_same = one_by told_form back_form back_form_lem

-- ---- kinds, and the places of their blocks

pub back_kind : ℕ × Bool × Option Layout → Kind
back_kind (k, true, o) = Kind.Reserved k
back_kind (k, false, none) = Kind.NotCarried k
back_kind (k, false, some a_publish) = Kind.Publish
back_kind (k, false, some (an_ack rs)) = Kind.Ack (back_ack_kind k)
back_kind (k, false, some a_subscribe) = Kind.Subscribe
back_kind (k, false, some (a_reply rs)) = Kind.Reply (back_reply_kind k)
back_kind (k, false, some an_unsubscribe) = Kind.Unsubscribe
back_kind (k, false, some a_ping) = cond (eqb k 12) Kind.PingReq Kind.PingResp

pub back_kind_lem : (k : Kind) → back_kind (told_kind k) ≡ k
unfolding back_kind
back_kind_lem Kind.Publish = refl
back_kind_lem (Kind.Ack k) = ap Kind.Ack (back_ack_kind_lem k)
back_kind_lem Kind.Subscribe = refl
back_kind_lem (Kind.Reply k) = ap Kind.Reply (back_reply_kind_lem k)
back_kind_lem Kind.Unsubscribe = refl
back_kind_lem Kind.PingReq = refl
back_kind_lem Kind.PingResp = refl
back_kind_lem (Kind.Reserved k) = refl
back_kind_lem (Kind.NotCarried k) = refl

pub kind_same : OneResult told_kind
kind_same = one_by told_kind back_kind back_kind_lem

-- 01, table of properties; 02, P1: no two rows begin with the same property
back_row : Forms → PropertyRow
back_row [] = PropertyRow.Unsubscribe
back_row (f ∷ fs) = cond (eqb f.0 1) PropertyRow.Publish (cond (eqb f.0 11) PropertyRow.Subscribe (cond (eqb f.0 31) PropertyRow.Ack PropertyRow.Unsubscribe))

back_place : Option Row → std.Option PropertyRow
back_place none = None
back_place (some p) = Some (back_row p.forms)

back_place_lem : (p : std.Option PropertyRow) → back_place (told_row p) ≡ p
unfolding back_place back_row publish_row subscribe_row ack_row unsubscribe_row
back_place_lem (Some PropertyRow.Publish) = refl
back_place_lem (Some PropertyRow.Subscribe) = refl
back_place_lem (Some PropertyRow.Ack) = refl
back_place_lem (Some PropertyRow.Unsubscribe) = refl
back_place_lem None = refl

pub place_same : OneResult told_row
place_same = one_by told_row back_place back_place_lem

back_row_lem : (p : PropertyRow) → back_row (table_row p).forms ≡ p
unfolding back_row publish_row subscribe_row ack_row unsubscribe_row
back_row_lem PropertyRow.Publish = refl
back_row_lem PropertyRow.Subscribe = refl
back_row_lem PropertyRow.Ack = refl
back_row_lem PropertyRow.Unsubscribe = refl

-- the place in a walker, which its contracts tell by its row
pub row_same : OneResult table_row
row_same = one_by table_row (λ (p : Row). back_row p.forms) back_row_lem

-- ---- headers

pub header_same : OneResult told_header
header_same = one_told header_in (λ z. Ok (record { byte1 = z.0.0; fixed_header_len = z.1; remaining_len = z.0.1 })) (λ h. refl)

-- what `check` tells are bytes of the stream, so that it needs the contract: they are as many as R says
pub checked_same : (limit : Option ℕ) (s : List ℕ) (a b : Result FixedHeader Error) → told_checked s a ≡ frame_at limit s → told_checked s b ≡ frame_at limit s → a ≡ b
checked_same limit s (Ok h) (Ok h') i j =
    let (x, l, m) = frame.checked_same limit s h.byte1 h.remaining_len h.fixed_header_len h'.byte1 h'.remaining_len h'.fixed_header_len i j in
    header_same (told_header (Ok h')) (Ok h) (Ok h') (rw (x, l, m)) refl
checked_same limit s (Ok h) (Err e) i j = absurd (bad_got (j ∙ sym i))
checked_same limit s (Err e) (Ok h) i j = absurd (bad_got (i ∙ sym j))
checked_same limit s (Err e) (Err e') i j = ap Err (error_injective (let k : told_error e ≡ told_error e' = cc in k))

-- ---- one property

-- what is told as a string or as the first of a pair, as the second of a pair
abbrev first_in : Val place.Span → place.Span
first_in (num n) = record { start = 0; len = 0 }
first_in (str p) = p
first_in (duo p q) = p

abbrev second_in : Val place.Span → place.Span
second_in (num n) = record { start = 0; len = 0 }
second_in (str p) = p
second_in (duo p q) = q

-- the value of a form
back_value : Form → Val place.Span → Value
back_value u8 v = Value.U8 (number_in v)
back_value u16 v = Value.U16 (number_in v)
back_value u32 v = Value.U32 (number_in v)
back_value number v = Value.Number (number_in v)
back_value text v = Value.Text (back_span (first_in v))
back_value bytes v = Value.Bytes (back_span (first_in v))
back_value pair v = Value.Pair (back_span (first_in v)) (back_span (second_in v))

back_value_lem : (v : Value) → back_value (form_of v) (told_value v) ≡ v
unfolding back_value
back_value_lem (Value.U8 n) = refl
back_value_lem (Value.U16 n) = refl
back_value_lem (Value.U32 n) = refl
back_value_lem (Value.Number n) = refl
back_value_lem (Value.Text p) = ap Value.Text (back_span_lem p)
back_value_lem (Value.Bytes p) = ap Value.Bytes (back_span_lem p)
back_value_lem (Value.Pair p q) = simp back_span_lem

value_same : (v v' : Value) → form_of v ≡ form_of v' → told_value v ≡ told_value v' → v ≡ v'
value_same v v' f t = sym (back_value_lem v) ∙ ap (λ g. back_value g (told_value v)) f ∙ ap (back_value (form_of v')) t ∙ back_value_lem v'

-- what is told may be a u8 or a u16; the forms f of the row say which
typed_same : (f : ℕ → Option Form) (d : Fit (PropOf place.Span × ℕ)) (a b : Result (ℕ × Value × ℕ) Error) → told_property a ≡ d → told_property b ≡ d → OfForm f a → OfForm f b → a ≡ b
typed_same f d (Ok (k, v, n)) (Ok (k', v', n')) r r' o o' =
    let e = got_inj (r ∙ sym r') in
    let i : k ≡ k' = ap (λ z. z.0.0) e in
    let g : form_of v ≡ form_of v' = let w : some (form_of v) ≡ some (form_of v') = sym o ∙ ap f i ∙ o' in cc in
    let t : v ≡ v' = value_same v v' g (ap (λ z. z.0.1) e) in
    let m : n ≡ n' = ap (λ z. z.1) e in
    rw (i, t, m)
typed_same f d (Ok (k, v, n)) (Err e) r r' o o' = absurd (bad_got (r' ∙ sym r))
typed_same f d (Err e) (Ok (k, v, n)) r r' o o' = absurd (bad_got (r ∙ sym r'))
typed_same f d (Err e) (Err e') r r' o o' =
    let i : bad (told_error e) ≡ bad (told_error e') = r ∙ sym r' in
    ap Err (error_injective (let k : told_error e ≡ told_error e' = cc in k))

pub property_same : (row : Row) (s : List ℕ) (at : ℕ) (a b : Result (ℕ × Value × ℕ) Error) → PropertyRead row s at a → PropertyRead row s at b → a ≡ b
property_same row s at a b r r' = typed_same (form_at row) (told_property b) a b (r.says ∙ sym r'.says) refl r.typed r'.typed

-- the same of the answer of `find_property`
abbrev back_found : Result (ℕ × Value × ℕ) Error → GotProperty
back_found (Ok (k, v, n)) = GotProperty.Found k v n
back_found (Err e) = GotProperty.Refused e

back_found_lem : (a : GotProperty) → back_found (property_got a) ≡ a
back_found_lem (GotProperty.Found k v n) = refl
back_found_lem (GotProperty.Refused e) = refl

pub found_same : (row : Row) (s : List ℕ) (at : ℕ) (a b : GotProperty) → PropertyRead row s at (property_got a) → PropertyRead row s at (property_got b) → a ≡ b
found_same row s at a b r r' = sym (back_found_lem a) ∙ ap back_found (property_same row s at (property_got a) (property_got b) r r') ∙ back_found_lem b

-- the same by the number of a kind
pub property_at_same : (kind : ℕ) (s : List ℕ) (at : ℕ) (a b : Result (ℕ × Value × ℕ) Error) → PropertyGiven kind s at a → PropertyGiven kind s at b → a ≡ b
property_at_same kind s at a b r r' = typed_same (form_in (row_of_kind kind)) (property_at kind s at) a b r.says r'.says r.typed r'.typed

-- the same before an end
pub property_up_to_same : (kind : ℕ) (s : List ℕ) (at end : ℕ) (a b : Result (ℕ × Value × ℕ) Error) → told_property a ≡ property_up_to kind s at end → OfForm (form_in (row_of_kind kind)) a → told_property b ≡ property_up_to kind s at end → OfForm (form_in (row_of_kind kind)) b → a ≡ b
property_up_to_same kind s at end a b told typed told' typed' = typed_same (form_in (row_of_kind kind)) (property_up_to kind s at end) a b told told' typed typed'
