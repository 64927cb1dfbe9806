-- What is wrong with bytes that are no sentence: a good front, then the first fault from the left. Nothing here knows of a reader.
-- F s k says that s, read within its room, breaks with the refusal k. Assumes nothing.
use Rattle.std.specs.Prelude.{◌≡◌, Bool, true, false, not, ◌||◌, List, [], ◌∷◌, ◌++◌, ℕ, zero, suc, ◌≤◌, ◌<◌, length}
use Rattle.std.proofs.Math.Option.{Option, none, some}
use Rattle.grammar.specs.Choice.{is_in, lookup, is_empty}
use Rattle.grammar.specs.Gram.{Gram, Only, OnlyBy, forget}
use Rattle.grammar.specs.Number.{Byte, Big, Groups, shortest, Spells}
use Rattle.grammar.specs.Text.{Utf8}
use Rattle.grammar.specs.Tables.{Form, u8, u16, u32, number, text, bytes, pair, Row, publish_row, subscribe_row, ack_row, unsubscribe_row, Layout, a_publish, an_ack, a_subscribe, a_reply, an_unsubscribe, a_ping, kinds, reserved, is_ping, form_at}
use Rattle.grammar.specs.Record.{kind_of, flag_qos}
use Rattle.grammar.specs.Sentence.{Bytes, Text, met, fresh, Property, Block, publish_of, props_if, not_three, not_zero, Ident, qos_fine, rule_fine, FilterOf, ReasonOf, Packet, Body, Frame}
use Rattle.reading.specs.Refusal.{Refusal, nr, Answer, accepted, refused, lacking, passes, exceeds}

-- bytes, and the refusal with which they break
abbrev pub Fault : Type 1
Fault = List ℕ → Refusal → Type 0

-- ---- one for each way to build a grammar

-- what cannot break
pub data Sound : List ℕ → Refusal → Type 0 where

-- a good front a that fails the test
pub data OnlyFault {A : Type 0} (t : A → Bool) (c : A → Refusal) (G : Gram A) (F : Fault) : List ℕ → Refusal → Type 0 where
  under : {s : List ℕ} {k : Refusal} → F s k → OnlyFault t c G F s k
  fails : {a : A} {b : List ℕ} (r : List ℕ) → G a b → t a ≡ false → OnlyFault t c G F (b ++ r) (c a)

-- a good front a whose value and count of bytes fail the test
pub data OnlyByFault {A : Type 0} (t : A → ℕ → Bool) (c : A → ℕ → Refusal) (G : Gram A) (F : Fault) : List ℕ → Refusal → Type 0 where
  under_by : {s : List ℕ} {k : Refusal} → F s k → OnlyByFault t c G F s k
  fails_by : {a : A} {b : List ℕ} (r : List ℕ) → G a b → t a (length b) ≡ false → OnlyByFault t c G F (b ++ r) (c a (length b))

-- the first breaks, or is good and the second breaks
pub data ThenFault {A : Type 0} (G : Gram A) (F : Fault) (H : A → Fault) : List ℕ → Refusal → Type 0 where
  first : {s : List ℕ} {k : Refusal} → F s k → ThenFault G F H s k
  second : {a : A} {b r : List ℕ} {k : Refusal} → G a b → H a r k → ThenFault G F H (b ++ r) k

-- the length breaks; or is more than the bytes r that are left; or what fills so many bytes breaks
pub data SizedFault (N : Gram ℕ) (F : Fault) (c : ℕ → List ℕ → Refusal) (H : Fault) : List ℕ → Refusal → Type 0 where
  sizes : {s : List ℕ} {k : Refusal} → F s k → SizedFault N F c H s k
  crosses : {l : ℕ} {b : List ℕ} (r : List ℕ) → N l b → length r < l → SizedFault N F c H (b ++ r) (c l r)
  fills : {b d : List ℕ} {k : Refusal} (r : List ℕ) → N (length b) d → H b k → SizedFault N F c H (d ++ (b ++ r)) k

-- some good ones, then one that breaks; what came before, as `step` sums it up in σ, may bear on the next
pub data ChainFault {S A : Type 0} (step : S → A → S) (G : S → Gram A) (F : S → Fault) : S → List ℕ → Refusal → Type 0 where
  now : {σ : S} {x : ℕ} {s : List ℕ} {k : Refusal} → F σ (x ∷ s) k → ChainFault step G F σ (x ∷ s) k
  later : {σ : S} {a : A} {b s : List ℕ} {k : Refusal} → G σ a b → ChainFault step G F (step σ a) s k → ChainFault step G F σ (b ++ s) k

-- the same where nothing is summed up
abbrev pub ManyFault : {A : Type 0} → Gram A → Fault → Fault
ManyFault G F = ChainFault forget (λ _. G) (λ _. F) tt

-- the first byte fails the test, or passes and what begins with it breaks
pub data HeadFault (t : ℕ → Bool) (c : ℕ → Refusal) (F : Fault) : List ℕ → Refusal → Type 0 where
  no_head : {k : Refusal} → F [] k → HeadFault t c F [] k
  head : {i : ℕ} {s : List ℕ} → t i ≡ false → HeadFault t c F (i ∷ s) (c i)
  behind : {i : ℕ} {s : List ℕ} {k : Refusal} → t i ≡ true → F (i ∷ s) k → HeadFault t c F (i ∷ s) k

-- it breaks, or bytes follow
pub data ExactFault {A : Type 0} (G : Gram A) (F : Fault) (c : Refusal) : List ℕ → Refusal → Type 0 where
  before : {s : List ℕ} {k : Refusal} → F s k → ExactFault G F c s k
  follows : {a : A} {b : List ℕ} (y : ℕ) (r : List ℕ) → G a b → ExactFault G F c (b ++ (y ∷ r)) c

-- bytes of which P does not hold
pub data IsFault (P : List ℕ → Type 0) (c : Refusal) : List ℕ → Refusal → Type 0 where
  isnt : {b : List ℕ} → (P b → ⊥) → IsFault P c b c

-- ---- numbers; c is given where the bytes end before the number does

-- 01, row 7, or row 1 in the header: there is no byte
pub data ByteFault (c : Refusal) : List ℕ → Refusal → Type 0 where
  no_byte : ByteFault c [] c

-- 01, row 7: fewer than n bytes
pub data BigFault (c : Refusal) (n : ℕ) : List ℕ → Refusal → Type 0 where
  fewer : {s : List ℕ} → length s < n → BigFault c n s c

-- bytes whose top bit is set
pub data Tops : List ℕ → Type 0 where
  no_tops : Tops []
  a_top : {x : ℕ} {b : List ℕ} → 128 ≤ x → Tops b → Tops (x ∷ b)

-- 01, row 2: "fourth byte of a variable length number has its top bit set"
pub data GroupsFault (c : Refusal) (n : ℕ) : List ℕ → Refusal → Type 0 where
  endless : {s : List ℕ} → Tops s → length s < n → GroupsFault c n s c
  long : {b : List ℕ} (r : List ℕ) → Tops b → length b ≡ n → GroupsFault c n (b ++ r) (nr 2 [])

-- 02, P8: "A variable length number that uses more bytes than it needs now gets refusal 2"
abbrev pub NumFault : Refusal → ℕ → Fault
NumFault c n = OnlyByFault shortest (λ _ _. nr 2 []) (Groups n) (GroupsFault c n)

-- ---- strings and properties

-- 01, row 8: "a string, or a block's L, exceeds what is left around it": the refusal of a length l before the bytes r
abbrev crossing : ℕ → List ℕ → Refusal
crossing l r = nr 8 (l ∷ [])

-- 01, rows 7 and 8
abbrev pub BytesFault : Fault
BytesFault = SizedFault (Big 2) (BigFault (nr 7 []) 2) crossing Sound

-- 01, row 9: "text not UTF-8"
abbrev pub TextFault : Fault
TextFault = SizedFault (Big 2) (BigFault (nr 7 []) 2) crossing (IsFault Utf8 (nr 9 []))

-- 01, table of properties
abbrev pub ValueFault : Form → Fault
ValueFault u8 = ByteFault (nr 7 [])
ValueFault u16 = BigFault (nr 7 []) 2
ValueFault u32 = BigFault (nr 7 []) 4
ValueFault number = OnlyFault not_zero (λ _. nr 23 []) Spells (NumFault (nr 7 []) 4)
ValueFault text = TextFault
ValueFault bytes = BytesFault
ValueFault pair = ThenFault Text TextFault (λ _. TextFault)

-- 01, row 10: "identifier not in its place's row"
pub data PropertyFault (row : Row) : List ℕ → Refusal → Type 0 where
  no_id : PropertyFault row [] (nr 7 [])
  unknown : {i : ℕ} {s : List ℕ} → form_at row i ≡ none → PropertyFault row (i ∷ s) (nr 10 (i ∷ []))
  value : {i : ℕ} {f : Form} {s : List ℕ} {k : Refusal} → form_at row i ≡ some f → ValueFault f s k → PropertyFault row (i ∷ s) k

-- 02, P9: "A single-valued property met a second time gets a new refusal DuplicateProperty(k), when its identifier byte is met"; σ were met
abbrev pub OnceFault : Row → List ℕ → Fault
OnceFault row σ = HeadFault (λ i. not (is_in i σ)) (λ i. nr 22 (i ∷ [])) (PropertyFault row)

-- 01, rows 7, 2 and 8 for L, then the first property that breaks
abbrev pub BlockFault : Row → Fault
BlockFault row = SizedFault Spells (NumFault (nr 7 []) 4) crossing (ChainFault (met row) (λ σ. Only (fresh σ) (Property row)) (OnceFault row) [])

-- ---- bodies

-- 01, rows 15 and 7: "not one of the nine"; "bytes after a PubAck's block"
pub data AckFault (row : Row) (rs : List ℕ) : List ℕ → Refusal → Type 0 where
  reason : {c : ℕ} {r : List ℕ} → is_in c rs ≡ false → AckFault row rs (c ∷ r) (nr 15 (c ∷ []))
  block : {c x : ℕ} {r : List ℕ} {k : Refusal} → is_in c rs ≡ true → ExactFault (Block row props_if) (BlockFault row) (nr 7 []) (x ∷ r) k → AckFault row rs (c ∷ x ∷ r) k

-- 01, row 12: "Publish, QoS 1 or 2, identifier 0"
abbrev pub IdentFault : ℕ → Fault
IdentFault zero = Sound
IdentFault (suc q) = OnlyFault not_zero (λ _. nr 12 []) (Big 2) (BigFault (nr 7 []) 2)

-- 01, rows 14 and 11: "both rule bits set"; "both QoS bits set"
abbrev pub FilterFault : Fault
FilterFault = ThenFault Text TextFault (λ _. OnlyFault qos_fine (λ _. nr 11 (3 ∷ [])) (Only rule_fine Byte) (OnlyFault rule_fine (λ _. nr 14 (3 ∷ [])) Byte (ByteFault (nr 7 []))))

-- 01, row 13: "no filters"; 02, P1: "with no entry gets 13"
pub data SomeFault {A : Type 0} (G : Gram A) (F : Fault) : List ℕ → Refusal → Type 0 where
  no_entry : SomeFault G F [] (nr 13 [])
  entry : {s : List ℕ} {k : Refusal} → ManyFault G F s k → SomeFault G F s k

-- 01, rows 13, 14 and 11
abbrev pub FiltersFault : Fault
FiltersFault = SomeFault FilterOf FilterFault

-- 02, P1: "an unlisted reason 15"
abbrev pub ReasonFault : List ℕ → Fault
ReasonFault rs = OnlyFault (λ c. is_in c rs) (λ c. nr 15 (c ∷ [])) Byte (ByteFault (nr 7 []))

-- 01: "Topic as bytes, ..; u16 identifier ..; block; the rest is payload", where QoS is q
abbrev pub MessageFault : ℕ → Fault
MessageFault q = ThenFault Bytes BytesFault (λ _. ThenFault (Ident q) (IdentFault q) (λ _. ThenFault (Block publish_row publish_of) (BlockFault publish_row) (λ _. Sound)))

-- 01, row 11, and reading order: "then QoS for Publish; then fields left to right"
pub data PublishFault (x : ℕ) : List ℕ → Refusal → Type 0 where
  qos : {s : List ℕ} → not_three (flag_qos x) ≡ false → PublishFault x s (nr 11 (3 ∷ []))
  fields : {s : List ℕ} {k : Refusal} → not_three (flag_qos x) ≡ true → MessageFault (flag_qos x) s k → PublishFault x s k

-- 01, reading order: "fields left to right"
abbrev pub FieldsFault : Layout → ℕ → Fault
FieldsFault a_publish x = PublishFault x
FieldsFault (an_ack rs) x = ThenFault (Big 2) (BigFault (nr 7 []) 2) (λ _. AckFault ack_row rs)
FieldsFault a_subscribe x = ThenFault (Big 2) (BigFault (nr 7 []) 2) (λ _. ThenFault (Block subscribe_row props_if) (BlockFault subscribe_row) (λ _. FiltersFault))
FieldsFault (a_reply rs) x = ThenFault (Big 2) (BigFault (nr 7 []) 2) (λ _. ThenFault (Block ack_row props_if) (BlockFault ack_row) (λ _. SomeFault (ReasonOf rs) (ReasonFault rs)))
FieldsFault an_unsubscribe x = ThenFault (Big 2) (BigFault (nr 7 []) 2) (λ _. ThenFault (Block unsubscribe_row props_if) (BlockFault unsubscribe_row) (λ _. SomeFault Text TextFault))
FieldsFault a_ping x = Sound

-- 01, rows 4 to 6, in this order; x is the first byte, x / 16 the kind
pub data BodyFault (x : ℕ) : List ℕ → Refusal → Type 0 where
  kind : {b : List ℕ} → is_in (kind_of x) reserved ≡ true → BodyFault x b (nr 4 (kind_of x ∷ []))
  no_bytes : is_in (kind_of x) reserved ≡ false → is_ping (lookup kinds (kind_of x)) ≡ false → BodyFault x [] (nr 5 [])
  foreign : {y : ℕ} {b : List ℕ} → is_in (kind_of x) reserved ≡ false → lookup kinds (kind_of x) ≡ none → BodyFault x (y ∷ b) (nr 6 (kind_of x ∷ []))
  content : {l : Layout} {b : List ℕ} {k : Refusal} → lookup kinds (kind_of x) ≡ some l → (is_ping (some l) || not (is_empty b)) ≡ true → FieldsFault l x b k → BodyFault x b k

-- ---- framing: 01, rows 1 to 3, reading order "1 while the header is incomplete, or 2; then 3; then 1"

-- a first byte, the length of a frame within the limit, and as many bytes
abbrev pub FrameFault : Option ℕ → Fault
FrameFault limit =
    ThenFault Byte (ByteFault (nr 1 (2 ∷ [])))
    (λ _. SizedFault (OnlyBy (passes limit) Spells) (OnlyByFault (passes limit) (exceeds limit) Spells (NumFault (nr 1 (1 ∷ [])) 4)) lacking Sound)

-- ---- the one answer to a stream

-- a frame that the limit lets pass: the first byte, and the bytes that its length counts
abbrev pub Passing : Option ℕ → ℕ × List ℕ → List ℕ → Type 0
Passing limit = Frame (OnlyBy (passes limit) Spells)

-- 01, Taken: the whole frame, or 0 where there is none to take
pub data Verdict (limit : Option ℕ) : List ℕ → Answer Packet → Type 0 where
  says : {x : ℕ} {b c : List ℕ} {v : Packet} (r : List ℕ) → Passing limit (x, b) c → Body x v b → Verdict limit (c ++ r) (accepted v (length c))
  breaks : {x k : ℕ} {b c vs : List ℕ} (r : List ℕ) → Passing limit (x, b) c → BodyFault x b (nr k vs) → Verdict limit (c ++ r) (refused k vs (length c))
  no_frame : {k : ℕ} {s vs : List ℕ} → FrameFault limit s (nr k vs) → Verdict limit s (refused k vs 0)
