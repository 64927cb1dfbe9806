-- The packet grammar (01, "The packet grammar"), in 01's order. Nothing here knows of a reader. Assumes nothing.
use Rattle.std.specs.Prelude.{◌≡◌, Bool, true, not, cond, List, [], ◌∷◌, ℕ, zero, suc, ◌+◌, ◌≤◌, length, eqb}
use Rattle.std.proofs.Math.Option.{Option, none, some}
use Rattle.grammar.specs.Choice.{is_in, lookup, is_empty}
use Rattle.grammar.specs.Number.{Byte, Big, Spells}
use Rattle.grammar.specs.Text.{Utf8}
use Rattle.grammar.specs.Gram.{Gram, Nothing, Map, Only, Then, Sized, Many, all_from, Is}
use Rattle.grammar.specs.Tables.{Form, u8, u16, u32, number, text, bytes, pair, Row, is_list, publish_row, subscribe_row, ack_row, unsubscribe_row, Layout, a_publish, an_ack, a_subscribe, a_reply, an_unsubscribe, a_ping, kinds, form_at}
use Rattle.grammar.specs.Record.{Val, num, str, duo, PropOf, unless_empty, PublishProps, publish_props, Props, props_of, Filter, PacketOf, kind_of, flag_qos, option_qos, option_rule, mk_publish, mk_ack, mk_filter, mk_subscribe, mk_reply, mk_unsubscribe, mk_ping}

-- ---- strings

-- no condition
abbrev pub Any : List ℕ → Type 0
Any b = Unit {0}

-- 01, grammar: "A string is a u16 length and that many bytes"
abbrev pub Bytes : List ℕ → List ℕ → Type 0
Bytes = Sized (Big 2) (Is Any)

-- 01, grammar: "text must be UTF-8"
abbrev pub Text : List ℕ → List ℕ → Type 0
Text = Sized (Big 2) (Is Utf8)

-- ---- properties

-- in the language a string is its bytes
abbrev pub Value : Type 0
Value = Val (List ℕ)

-- the same of a property
abbrev pub Prop : Type 0
Prop = PropOf (List ℕ)

-- 01, table of properties: "text pair"
abbrev pub duo_of : {S : Type 0} → S × S → Val S
duo_of p = duo p.0 p.1

-- 01, grammar, Publish: "and not 0"; 02, P9: "Property 11 with value 0 gets SubscriptionIdZero"
abbrev pub not_zero : ℕ → Bool
not_zero i = not (eqb i 0)

-- 01, table of properties: how a value of each form is spelled
abbrev pub Spelt : Form → Value → List ℕ → Type 0
Spelt u8 = Map num Byte
Spelt u16 = Map num (Big 2)
Spelt u32 = Map num (Big 4)
Spelt number = Map num (Only not_zero Spells)
Spelt text = Map str Text
Spelt bytes = Map str Bytes
Spelt pair = Map duo_of (Then Text (λ _. Text))

-- 01, grammar: "A property is an identifier byte and a value", of the form that the row gives it
pub data Property (row : Row) : Prop → List ℕ → Type 0 where
  property : {i : ℕ} {f : Form} {v : Value} {b : List ℕ} → form_at row i ≡ some f → Spelt f v b → Property row (i, v) (i ∷ b)

-- 02, P9: the identifiers that were met and are single-valued, so that they may not come again
abbrev pub met : {S : Type 0} → Row → List ℕ → PropOf S → List ℕ
met row σ p = cond (is_list row p.0) σ (p.0 ∷ σ)

-- 02, P9: not "a single-valued property met a second time"
abbrev pub fresh : {S : Type 0} → List ℕ → PropOf S → Bool
fresh σ p = not (is_in p.0 σ)

-- 02, P9: "No doubled properties"
abbrev pub none_twice : {S : Type 0} → Row → List (PropOf S) → Bool
none_twice row = all_from (met row) fresh []

-- what fills a block of the place: properties, none of them doubled
abbrev pub Properties : Row → List Prop → List ℕ → Type 0
Properties row = Only (none_twice row) (Many (Property row))

-- 01, grammar: "a variable length number L and L bytes, filled exactly by properties"; f says what they come to
abbrev pub Block : {A : Type 0} → Row → (List Prop → A) → A → List ℕ → Type 0
Block row f = Sized Spells (Map f (Properties row))

-- in the language a list is the list
abbrev pub as_list : {A : Type 0} → List A → List A
as_list vs = vs

-- 01, grammar: what a Publish block comes to, "L = 0 means absent"
abbrev pub publish_of : List Prop → Option (PublishProps (List ℕ) List)
publish_of = unless_empty (publish_props (List ℕ) List as_list)

-- 01, grammar: a block at any other place
abbrev pub props_if : List Prop → Option (Props (List ℕ) List)
props_if = unless_empty (props_of (List ℕ) List as_list)

-- ---- Publish

-- 01, grammar: "QoS 3, in flags or options, and forward rule 3 stand in no sentence"
abbrev pub not_three : ℕ → Bool
not_three q = not (eqb q 3)

-- 01, grammar, Publish: "u16 identifier only if QoS is 1 or 2, and not 0"
abbrev pub Ident : ℕ → ℕ → List ℕ → Type 0
Ident zero = Nothing 0
Ident (suc q) = Only not_zero (Big 2)

-- 01, grammar: "QoS 3, in flags": a test of the first byte x alone
abbrev pub publish_good : {A : Type 0} → ℕ → A → Bool
publish_good x v = not_three (flag_qos x)

-- ---- Subscribe

-- 01, grammar: "QoS 3, in .. options"
abbrev pub qos_fine : ℕ → Bool
qos_fine o = not_three (option_qos o)

-- 01, grammar: "forward rule 3 stand[s] in no sentence"
abbrev pub rule_fine : ℕ → Bool
rule_fine o = not_three (option_rule o)

-- 01, grammar, Subscribe: "text, then an options byte"
abbrev pub FilterOf : Filter (List ℕ) → List ℕ → Type 0
FilterOf = Map mk_filter (Then Text (λ _. Only qos_fine (Only rule_fine Byte)))

-- 01, grammar, Subscribe: "one or more filters"
abbrev pub some_of : {A : Type 0} → List A → Bool
some_of fs = not (is_empty fs)

-- ---- acknowledgements, by the reasons rs that they may give

-- 01, grammar, PubAck: "at R = 2 success and no block; at R = 3 a reason and no block; from R = 4 a reason and a block that ends the frame"
pub data AckRest (row : Row) (rs : List ℕ) : ℕ × Option (Props (List ℕ) List) → List ℕ → Type 0 where
  plain : AckRest row rs (0, none) []
  coded : {c : ℕ} → is_in c rs ≡ true → AckRest row rs (c, none) (c ∷ [])
  full : {c : ℕ} {ps : Option (Props (List ℕ) List)} {b : List ℕ} → is_in c rs ≡ true → Block row props_if ps b → AckRest row rs (c, ps) (c ∷ b)

-- ---- replies, by the reasons rs that they may give

-- 02, P1: a reason of the list, in SubAck and UnsubAck
abbrev pub ReasonOf : List ℕ → ℕ → List ℕ → Type 0
ReasonOf rs = Only (λ c. is_in c rs) Byte

-- ---- packets

-- a packet of the language: its strings are bytes, its lists are lists
abbrev pub Packet : Type 0
Packet = PacketOf (List ℕ) List

-- 01, grammar: what fills a frame of each layout whose first byte is x
abbrev pub Fields : Layout → ℕ → Packet → List ℕ → Type 0
Fields a_publish x =
    Only (publish_good x) (Map (mk_publish x) (Then Bytes (λ _. Then (Ident (flag_qos x)) (λ _. Then (Block publish_row publish_of) (λ _. Is Any)))))
Fields (an_ack rs) x = Map (mk_ack x) (Then (Big 2) (λ _. AckRest ack_row rs))
Fields a_subscribe x = Map mk_subscribe (Then (Big 2) (λ _. Then (Block subscribe_row props_if) (λ _. Only some_of (Many FilterOf))))
Fields (a_reply rs) x = Map (mk_reply x) (Then (Big 2) (λ _. Then (Block ack_row props_if) (λ _. Only some_of (Many (ReasonOf rs)))))
Fields an_unsubscribe x = Map mk_unsubscribe (Then (Big 2) (λ _. Then (Block unsubscribe_row props_if) (λ _. Only some_of (Many Text))))
Fields a_ping x = Map (mk_ping x) (Is Any)

-- 01, grammar: "kind in the high four bits": one that is carried, and its fields
pub data Body (x : ℕ) : Packet → List ℕ → Type 0 where
  body : {l : Layout} {v : Packet} {b : List ℕ} → lookup kinds (kind_of x) ≡ some l → Fields l x v b → Body x v b

-- 01, grammar: "A frame is one byte .., a variable length number R, then R bytes"; N says which numbers R may be
abbrev pub Frame : Gram ℕ → ℕ × List ℕ → List ℕ → Type 0
Frame N = Then Byte (λ _. Sized N (Is Any))

-- 01, Taken: "F is the whole frame": its first byte, the n bytes that spell R, and R bytes
abbrev pub frame_length : ℕ → ℕ → ℕ
frame_length R n = 1 + n + R

-- 01, grammar: a frame whose R bytes are the fields of its kind
pub data Framed (N : Gram ℕ) : Packet → List ℕ → Type 0 where
  framed : {x : ℕ} {v : Packet} {b c : List ℕ} → Frame N (x, b) c → Body x v b → Framed N v c

-- demand 3: the sentences of 01's packet grammar
abbrev pub Sentence : Packet → List ℕ → Type 0
Sentence = Framed Spells

-- demand 3, "a limit", and 02, P2: "Demand 3 sets F against the limit": the sentences of at most m bytes
abbrev pub ShortSentence : ℕ → Packet → List ℕ → Type 0
ShortSentence m v b = Sentence v b × (length b ≤ m)
