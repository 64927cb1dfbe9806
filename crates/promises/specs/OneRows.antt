-- Answers that stand for a refusal, told in 01's number and values: the kind of a frame (rows 4 and 6) and the form of a property (row 10).
-- Assumes nothing.
use Rattle.std.specs.Prelude as std
use Rattle.std.specs.Prelude.{not, [], ◌∷◌, ℕ, Some, None}
use Rattle.std.proofs.Math.Option.{Option, none, some}
use Rattle.grammar.specs.Choice.{is_in, lookup}
use Rattle.grammar.specs.Tables.{Form, u8, u16, u32, number, text, bytes, pair, Row, form_at, Layout, a_publish, an_ack, a_subscribe, a_reply, an_unsubscribe, a_ping, kinds, reserved, reasons_of}
use Rattle.reading.specs.Refusal.{Refusal, nr}
use Rattle.reading.specs.Reader.{Fit, got, bad, ◌>>=◌, ◌>>◌, guard}
use Rattle.records.specs.AsNumbers.{told_ack_kind, told_reply_kind}
use Rattle.tables.specs.declared.property.PropertyForm.{PropertyForm}
use Rattle.kinds.specs.declared.Kind.{Kind}

-- what is present, or else the refusal
abbrev pub or_row : {A : Type 0} → Refusal → Option A → Fit A
or_row k none = bad k
or_row k (some a) = got a

-- ---- kinds

-- the number and the layout of a kind that is carried; 01, row 4: InvalidPacketType(k); row 6: KindNotCarried(k)
abbrev pub kind_told : Kind → Fit (ℕ × Layout)
kind_told Kind.Publish = got (3, a_publish)
kind_told (Kind.Ack k) = got (told_ack_kind k, an_ack (reasons_of (told_ack_kind k)))
kind_told Kind.Subscribe = got (8, a_subscribe)
kind_told (Kind.Reply k) = got (told_reply_kind k, a_reply (reasons_of (told_reply_kind k)))
kind_told Kind.Unsubscribe = got (10, an_unsubscribe)
kind_told Kind.PingReq = got (12, a_ping)
kind_told Kind.PingResp = got (13, a_ping)
kind_told (Kind.Reserved k) = bad (nr 4 (k ∷ []))
kind_told (Kind.NotCarried k) = bad (nr 6 (k ∷ []))

-- 01, row 4: "k is 0 or 15"; row 6, as 02's P1 leaves it: any other number that is not in the table of kinds
abbrev pub kind_answer : ℕ → Fit (ℕ × Layout)
kind_answer k = do
  guard (not (is_in k reserved)) (nr 4 (k ∷ []))
  l ← or_row (nr 6 (k ∷ [])) (lookup kinds k)
  got (k, l)

-- ---- properties

-- the form of property i; 01, row 10: InvalidPropertyType(i)
abbrev pub form_told : ℕ → std.Option PropertyForm → Fit Form
form_told i (Some PropertyForm.U8) = got u8
form_told i (Some PropertyForm.U16) = got u16
form_told i (Some PropertyForm.U32) = got u32
form_told i (Some PropertyForm.Number) = got number
form_told i (Some PropertyForm.Text) = got text
form_told i (Some PropertyForm.Bytes) = got bytes
form_told i (Some PropertyForm.Pair) = got pair
form_told i None = bad (nr 10 (i ∷ []))

-- 01, row 10: "identifier not in its place's row"
abbrev pub form_answer : Row → ℕ → Fit Form
form_answer row i = or_row (nr 10 (i ∷ [])) (form_at row i)
