-- What is tested of a hand-over, and in which order: the first test that fails says the refusal. Assumes nothing.
use Rattle.std.specs.Prelude.{Bool, true, not, ◌||◌, cond, List, [], ◌∷◌, ◌++◌, map, ℕ, leb, eqb, length}
use Rattle.std.proofs.Math.Option.{Option, none, some}
use Rattle.grammar.specs.Choice.{is_in, is_empty}
use Rattle.grammar.specs.Tables.{Form, u8, u16, u32, number, text, bytes, pair, Row, publish_row, subscribe_row, ack_row, unsubscribe_row, reasons_of}
use Rattle.grammar.specs.Sentence.{not_zero, qos_fine, rule_fine}
use Rattle.reading.specs.Refusal.{Refusal, nr}
use Rattle.reading.specs.Reader.{Fit, got, ◌>>◌, guard}
use Rattle.reading.specs.Read.{is_text}
use Rattle.writing.specs.Lists.{flat}
use Rattle.writing.specs.Handed.{Handed, publish, ack, subscribe, reply, unsubscribe, ping, Given, one, lent, pairs, several, Givens, publish_given, subscribe_given, ack_given, unsubscribe_given, strings, filters, belongs}
use Rattle.writing.specs.Size.{most, rest_is, size_is}

-- what must hold, and the refusal if it does not
abbrev pub Test : Type 0
Test = Bool × Refusal

-- the refusal of the first test that fails
unfoldable pub judge : List Test → Fit (Unit {0})
judge [] = got tt
judge (t ∷ ts) = do
  guard t.0 t.1
  judge ts

-- ---- the fields that are tested as they are written

-- bytes; text; the text and the options byte of a filter; a reason, and those that its kind may give
pub data Field : Type 0 where
  raw : List ℕ → Field
  word : List ℕ → Field
  filter : List ℕ → ℕ → Field
  code : List ℕ → ℕ → Field

-- 01, row 18: "written string above 65,535 bytes"
abbrev pub length_test : List ℕ → Test
length_test s = (leb (length s) 65535, nr 18 (length s ∷ []))

-- 01, row 9: "text not UTF-8, read or written"
abbrev pub utf8_test : List ℕ → Test
utf8_test s = (is_text s, nr 9 [])

-- 01, writing order: "18, and 9 for text, .. with 14 then 11 after a filter's text"
abbrev pub field_tests : Field → List Test
field_tests (raw s) = length_test s ∷ []
field_tests (word s) = length_test s ∷ utf8_test s ∷ []
field_tests (filter s o) = length_test s ∷ utf8_test s ∷ (rule_fine o, nr 14 (3 ∷ [])) ∷ (qos_fine o, nr 11 (3 ∷ [])) ∷ []
-- 02, P1: "an unlisted reason 15, .. the written one where 14 stands"
field_tests (code rs c) = (is_in c rs, nr 15 (c ∷ [])) ∷ []

-- 01, table of properties: what is tested of a string of each form
abbrev pub string_field : Form → List ℕ → Field
string_field u8 s = raw s
string_field u16 s = raw s
string_field u32 s = raw s
string_field number s = raw s
string_field text s = word s
string_field bytes s = raw s
string_field pair s = raw s

-- the fields of a row
abbrev pub given_fields : Form → Given → List Field
given_fields f (one o) = []
given_fields f (lent l) = cond l.on (string_field f l.bytes ∷ []) []
given_fields f (pairs r) = map word (strings r)
given_fields f (several ns) = []

-- 01, writing order: "field by field as written": the rows of the table in their order
unfoldable pub props_fields : Row → Givens → List Field
props_fields row g = flat (λ r. given_fields r.1 (g r.0)) row.forms

-- a filter's text and options byte
abbrev pub filter_field : List ℕ × ℕ → Field
filter_field f = filter f.0 f.1

-- 01, writing order: the fields of each kind, in the order in which they are written
unfoldable pub fields_of : Handed → List Field
fields_of (publish h) = raw h.topic ∷ props_fields publish_row (publish_given h)
fields_of (ack k h) = code (reasons_of k) h.reason ∷ props_fields ack_row (ack_given h.text h.user)
fields_of (subscribe h) = props_fields subscribe_row (subscribe_given h) ++ map filter_field (filters h)
fields_of (reply k h) = props_fields ack_row (ack_given h.text h.user) ++ map (code (reasons_of k)) h.reasons
fields_of (unsubscribe h) = props_fields unsubscribe_row (unsubscribe_given h.user) ++ map word (strings h.topics)
fields_of (ping k) = []

-- ---- the other tests

-- 01, row 17: "written R, or a subscription identifier, above 268,435,455"
abbrev pub number_test : ℕ → Test
number_test n = (leb n most, nr 17 [])

-- 02, P9: "The writer also refuses a subscription identifier 0, in the place where 17 for identifiers stands"
abbrev pub number_tests : ℕ → List Test
number_tests n = number_test n ∷ (not_zero n, nr 23 []) ∷ []

-- what is present, as a list
abbrev pub or_none : {A : Type 0} → Option A → List A
or_none none = []
or_none (some a) = a ∷ []

-- 01, writing order: "17 for identifiers in order": the subscription identifiers of each kind
abbrev pub numbers_of : Handed → List ℕ
numbers_of (publish h) = h.subscriptions
numbers_of (ack k h) = []
numbers_of (subscribe h) = or_none h.subscription
numbers_of (reply k h) = []
numbers_of (unsubscribe h) = []
numbers_of (ping k) = []

-- 01, row 12: "Publish, QoS 1 or 2, identifier 0"
abbrev pub has_ident : Handed → Bool
has_ident (publish h) = eqb h.qos 0 || not_zero h.ident
has_ident (ack k h) = true
has_ident (subscribe h) = true
has_ident (reply k h) = true
has_ident (unsubscribe h) = true
has_ident (ping k) = true

-- 01, row 13: "no filters"; 02, P1: "with no entry gets 13, .. read or written"
abbrev pub has_entries : Handed → Bool
has_entries (publish h) = true
has_entries (ack k h) = true
has_entries (subscribe h) = not (is_empty (filters h))
has_entries (reply k h) = not (is_empty h.reasons)
has_entries (unsubscribe h) = not (is_empty (strings h.topics))
has_entries (ping k) = true

-- 01, row 16: "write size above the limit"
abbrev pub limit_tests : Option ℕ → ℕ → List Test
limit_tests none n = []
limit_tests (some m) n = (leb n m, nr 16 (n ∷ m ∷ [])) ∷ []

-- 01, writing order: "..; 16; 12; 17 for identifiers in order; 13; 19"; 02, P9: 23 beside that 17
abbrev pub permit_sized : Option ℕ → ℕ → Handed → Fit (Unit {0})
permit_sized limit room h = do
  judge (limit_tests limit (size_is h))
  guard (has_ident h) (nr 12 [])
  judge (flat number_tests (numbers_of h))
  guard (has_entries h) (nr 13 [])
  guard (leb (size_is h) room) (nr 19 (size_is h ∷ []))

-- 01, writing order: "20; then 18, and 9 for text, field by field as written, ..; 17 for R; .."
unfoldable pub permit : Option ℕ → ℕ → Handed → Fit (Unit {0})
permit limit room h = do
  guard (belongs h) (nr 20 [])
  judge (flat field_tests (fields_of h))
  guard (leb (rest_is h) most) (nr 17 [])
  permit_sized limit room h
