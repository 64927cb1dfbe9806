-- Where the strings, blocks and runs of a sentence stand: behind how many of its bytes. Each grammar of 01 once more, told how many bytes come
-- before it, so that a place is counted forth from the first byte of the sentence; which values pass a test is said by the grammar alone.
-- Nothing here knows of a reader. Assumes nothing.
use Rattle.std.specs.Prelude.{◌≡◌, List, [], ◌∷◌, ◌++◌, ℕ, ◌+◌, length}
use Rattle.std.proofs.Math.Option.{Option, none, some}
use Rattle.grammar.specs.Choice.{lookup}
use Rattle.grammar.specs.Number.{Byte, Big, Spells}
use Rattle.grammar.specs.Text.{Utf8}
use Rattle.grammar.specs.Gram.{Gram, Map, Only, Is}
use Rattle.grammar.specs.Tables.{Form, u8, u16, u32, number, text, bytes, pair, Row, publish_row, subscribe_row, ack_row, unsubscribe_row, Layout, a_publish, an_ack, a_subscribe, a_reply, an_unsubscribe, a_ping, kinds, form_at}
use Rattle.grammar.specs.Record.{Val, num, str, PropOf, unless_empty, PublishProps, publish_props, Props, props_of, Filter, kind_of, flag_qos, mk_publish, mk_ack, mk_filter, mk_subscribe, mk_reply, mk_unsubscribe, mk_ping}
use Rattle.grammar.specs.Sentence.{Any, duo_of, not_zero, Ident, qos_fine, rule_fine, ReasonOf}
use Rattle.reading.specs.Place.{Span, Placed}

-- a grammar behind so many bytes
abbrev pub GramAt : Type 0 → Type 1
GramAt A = ℕ → Gram A

-- 01, "What must change shape": the place of the bytes b behind `at` bytes
abbrev pub place_of : ℕ → List ℕ → Span
place_of at b = record { start = at; len = length b }

-- G, then H behind it
pub data ThenAt {A B : Type 0} (G : GramAt A) (H : A → GramAt B) (at : ℕ) : A × B → List ℕ → Type 0 where
  both : {a : A} {c : B} {b d : List ℕ} → G at a b → H a (at + length b) c d → ThenAt G H at (a, c) (b ++ d)

-- a number, then as many bytes, which stand behind it
pub data SizedAt {A : Type 0} (N : Gram ℕ) (H : GramAt A) (at : ℕ) : A → List ℕ → Type 0 where
  sized : {a : A} {b c : List ℕ} → N (length b) c → H (at + length c) a b → SizedAt N H at a (c ++ b)

-- any number of Gs, each behind the one before
pub data ManyAt {A : Type 0} (G : GramAt A) : ℕ → List A → List ℕ → Type 0 where
  done : {at : ℕ} → ManyAt G at [] []
  more : {at : ℕ} {a : A} {vs : List A} {b c : List ℕ} → G at a b → ManyAt G (at + length b) vs c → ManyAt G at (a ∷ vs) (b ++ c)

-- G, handed back as f makes it of the value and its place
pub data HandedAt {A B : Type 0} (f : A → Span → B) (G : GramAt A) (at : ℕ) : B → List ℕ → Type 0 where
  handed : {a : A} {b : List ℕ} → G at a b → HandedAt f G at (f a (place_of at b)) b

-- ---- strings and properties

-- bytes, handed back as their place
abbrev pub StringAt : (List ℕ → Type 0) → GramAt Span
StringAt P = HandedAt (λ b p. p) (λ at. Is P)

-- 01, grammar: "A string is a u16 length and that many bytes"
abbrev pub BytesAt : GramAt Span
BytesAt = SizedAt (Big 2) (StringAt Any)

-- 01, grammar: "text must be UTF-8"
abbrev pub TextAt : GramAt Span
TextAt = SizedAt (Big 2) (StringAt Utf8)

-- 01, table of properties
abbrev pub SpeltAt : Form → GramAt (Val Span)
SpeltAt u8 at = Map num Byte
SpeltAt u16 at = Map num (Big 2)
SpeltAt u32 at = Map num (Big 4)
SpeltAt number at = Map num (Only not_zero Spells)
SpeltAt text at = Map str (TextAt at)
SpeltAt bytes at = Map str (BytesAt at)
SpeltAt pair at = Map duo_of (ThenAt TextAt (λ _. TextAt) at)

-- 01, grammar: "A property is an identifier byte and a value"
pub data PropertyAt (place : Row) (at : ℕ) : PropOf Span → List ℕ → Type 0 where
  property : {i : ℕ} {f : Form} {v : Val Span} {b : List ℕ} → form_at place i ≡ some f → SpeltAt f (at + 1) v b → PropertyAt place at (i, v) (i ∷ b)

-- 01, grammar: "a variable length number L and L bytes, filled exactly by properties"; f makes the record of them and of their place
abbrev pub BlockAt : {A : Type 0} → Row → (List (PropOf Span) → Span → A) → GramAt A
BlockAt place f = SizedAt Spells (HandedAt f (ManyAt (PropertyAt place)))

-- 01, "What must change shape": "the place of the block"; "L = 0 means absent"
abbrev pub publish_from : List (PropOf Span) → Span → Option (PublishProps Span (λ A. Span))
publish_from ps p = unless_empty (publish_props Span (λ A. Span) (λ vs. p)) ps

-- the same of any other kind
abbrev pub props_from : List (PropOf Span) → Span → Option (Props Span (λ A. Span))
props_from ps p = unless_empty (props_of Span (λ A. Span) (λ vs. p)) ps

-- ---- packets

-- 01, grammar, Subscribe: "text, then an options byte"
abbrev pub FilterAt : GramAt (Filter Span)
FilterAt at = Map mk_filter (ThenAt TextAt (λ _ _. Only qos_fine (Only rule_fine Byte)) at)

-- 01, "What must change shape": "the place of the block or filters": entries, handed back as the place of all of them
abbrev pub RunAt : {A : Type 0} → GramAt A → GramAt Span
RunAt G = HandedAt (λ vs p. p) (ManyAt G)

-- 01, grammar, PubAck: "at R = 2 ..; at R = 3 ..; from R = 4 a reason and a block"
pub data AckRestAt (row : Row) (at : ℕ) : ℕ × Option (Props Span (λ A. Span)) → List ℕ → Type 0 where
  plain : AckRestAt row at (0, none) []
  coded : {c : ℕ} → AckRestAt row at (c, none) (c ∷ [])
  full : {c : ℕ} {ps : Option (Props Span (λ A. Span))} {b : List ℕ} → BlockAt row props_from (at + 1) ps b → AckRestAt row at (c, ps) (c ∷ b)

-- 01, grammar: what fills a frame of each layout whose first byte is x
abbrev pub FieldsAt : Layout → ℕ → GramAt Placed
FieldsAt a_publish x at = Map (mk_publish x) (ThenAt BytesAt (λ _. ThenAt (λ _. Ident (flag_qos x)) (λ _. ThenAt (BlockAt publish_row publish_from) (λ _. StringAt Any))) at)
FieldsAt (an_ack rs) x at = Map (mk_ack x) (ThenAt (λ _. Big 2) (λ _. AckRestAt ack_row) at)
FieldsAt a_subscribe x at = Map mk_subscribe (ThenAt (λ _. Big 2) (λ _. ThenAt (BlockAt subscribe_row props_from) (λ _. RunAt FilterAt)) at)
FieldsAt (a_reply rs) x at = Map (mk_reply x) (ThenAt (λ _. Big 2) (λ _. ThenAt (BlockAt ack_row props_from) (λ _. RunAt (λ _. ReasonOf rs))) at)
FieldsAt an_unsubscribe x at = Map mk_unsubscribe (ThenAt (λ _. Big 2) (λ _. ThenAt (BlockAt unsubscribe_row props_from) (λ _. RunAt TextAt)) at)
FieldsAt a_ping x at = Map (mk_ping x) (Is Any)

-- 01, grammar: "A frame is one byte .., a variable length number R, then R bytes": the fields stand behind the first byte and the number
pub data PlacedSentence : Placed → List ℕ → Type 0 where
  framed : {x : ℕ} {l : Layout} {v : Placed} (b c : List ℕ) → lookup kinds (kind_of x) ≡ some l → Spells (length b) c → FieldsAt l x (1 + length c) v b → PlacedSentence v (x ∷ (c ++ b))

-- s begins with a sentence of n bytes, in which the record's strings, blocks and runs stand where the record says
abbrev pub PlacedIn : List ℕ → Placed → ℕ → Type 0
PlacedIn s v n = (b r : List ℕ) × (s ≡ b ++ r) × (length b ≡ n) × PlacedSentence v b
