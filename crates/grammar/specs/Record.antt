-- What a packet says: a record for each layout. S is what a string is handed back as, L A what a list of As is: in the language they are
-- bytes and lists, in a reader's answer places in the stream (01, "What must change shape"). Assumes nothing.
use Rattle.std.specs.Prelude.{cond, List, [], ◌∷◌, ℕ, ◌/◌, ◌%◌, eqb}
use Rattle.std.proofs.Math.Option.{Option, none, some}

-- ---- properties

-- 01, table of properties: a value is a number, a string, or a pair of strings
pub data Val (S : Type 0) : Type 0 where
  num : ℕ → Val S
  str : S → Val S
  duo : S → S → Val S

-- 01, grammar: "an identifier byte and a value"
abbrev pub PropOf : Type 0 → Type 0
PropOf S = ℕ × Val S

-- 01, grammar: "Of a single-valued property given twice the last counts"; since 02, P9, it stands once at most; o is what came before
abbrev pub last_from : {S : Type 0} → Option (Val S) → ℕ → List (PropOf S) → Option (Val S)
last_from o i [] = o
last_from o i (p ∷ ps) = last_from (cond (eqb p.0 i) (some p.1) o) i ps

-- 01, grammar: the same of a whole block, before which nothing came
unfoldable pub last_of : {S : Type 0} → ℕ → List (PropOf S) → Option (Val S)
last_of i ps = last_from none i ps

-- 01, grammar: "38, and 11 in Publish, are lists kept in order"
unfoldable pub all_of : {S : Type 0} → ℕ → List (PropOf S) → List (Val S)
all_of i [] = []
all_of i (p ∷ ps) = cond (eqb p.0 i) (p.1 ∷ all_of i ps) (all_of i ps)

-- 01, grammar: "L = 0 means absent"
abbrev pub unless_empty : {S A : Type 0} → (List (PropOf S) → A) → List (PropOf S) → Option A
unless_empty f [] = none
unless_empty f (p ∷ ps) = some (f (p ∷ ps))

-- 01, table of properties, row Publish
pub record PublishProps (S : Type 0) (L : Type 0 → Type 0) : Type 0 where
  pub format : Option (Val S)
  pub expiry : Option (Val S)
  pub alias : Option (Val S)
  pub response : Option (Val S)
  pub correlation : Option (Val S)
  pub user : L (Val S)
  pub subscriptions : L (Val S)
  pub content : Option (Val S)

-- 01, table of properties, row Publish: the fields by their identifiers; `keep` says what a list is handed back as
unfoldable pub publish_props : (S : Type 0) (L : Type 0 → Type 0) (keep : List (Val S) → L (Val S)) → List (PropOf S) → PublishProps S L
publish_props S L keep ps = record {
  format = last_of 1 ps;
  expiry = last_of 2 ps;
  alias = last_of 35 ps;
  response = last_of 8 ps;
  correlation = last_of 9 ps;
  user = keep (all_of 38 ps);
  subscriptions = keep (all_of 11 ps);
  content = last_of 3 ps;
}

-- 01, table of properties, rows Subscribe and PubAck; 02, P1, row Unsubscribe: one record for the blocks of all three. What is not in the
-- row does not stand in its block, so its field is none there
pub record Props (S : Type 0) (L : Type 0 → Type 0) : Type 0 where
  pub reason : Option (Val S)
  pub ident : Option (Val S)
  pub user : L (Val S)

-- 01, table of properties: the fields by their identifiers; here 11 is no list
unfoldable pub props_of : (S : Type 0) (L : Type 0 → Type 0) (keep : List (Val S) → L (Val S)) → List (PropOf S) → Props S L
props_of S L keep ps = record { reason = last_of 31 ps; ident = last_of 11 ps; user = keep (all_of 38 ps) }

-- ---- the records

-- 01, grammar: "Publish (3)"; ident is 0 where QoS is 0
pub record Publish (S : Type 0) (L : Type 0 → Type 0) : Type 0 where
  pub dup : ℕ
  pub qos : ℕ
  pub retain : ℕ
  pub topic : S
  pub ident : ℕ
  pub props : Option (PublishProps S L)
  pub payload : S

-- 01, grammar, Subscribe: "text, then an options byte"
pub record Filter (S : Type 0) : Type 0 where
  pub path : S
  pub qos : ℕ
  pub no_local : ℕ
  pub preserve : ℕ
  pub rule : ℕ

-- 01, grammar: "Subscribe (8)"
pub record Subscribe (S : Type 0) (L : Type 0 → Type 0) : Type 0 where
  pub ident : ℕ
  pub props : Option (Props S L)
  pub filters : L (Filter S)

-- 01, grammar: "PubAck (4)"
pub record Ack (S : Type 0) (L : Type 0 → Type 0) : Type 0 where
  pub ident : ℕ
  pub reason : ℕ
  pub props : Option (Props S L)

-- 02, P1: SubAck and UnsubAck, a reason for each filter or topic
pub record Reply (S : Type 0) (L : Type 0 → Type 0) : Type 0 where
  pub ident : ℕ
  pub props : Option (Props S L)
  pub reasons : L ℕ

-- 02, P1: Unsubscribe
pub record Unsubscribe (S : Type 0) (L : Type 0 → Type 0) : Type 0 where
  pub ident : ℕ
  pub props : Option (Props S L)
  pub topics : L S

-- 01, modules: "Publish, Subscribe, PubAck, PingReq, PingResp"; 02, P1: the other acknowledgements, and Unsubscribe; acknowledgements,
-- replies and pings by the number of their kind
pub data PacketOf (S : Type 0) (L : Type 0 → Type 0) : Type 0 where
  publish : Publish S L → PacketOf S L
  ack : ℕ → Ack S L → PacketOf S L
  subscribe : Subscribe S L → PacketOf S L
  reply : ℕ → Reply S L → PacketOf S L
  unsubscribe : Unsubscribe S L → PacketOf S L
  ping : ℕ → PacketOf S L

-- ---- records from their fields, in the order in which these are spelled; x is the frame's first byte

-- 01, grammar: "kind in the high four bits"
abbrev pub kind_of : ℕ → ℕ
kind_of x = x / 16

-- 01, grammar, Publish: "flags are dup (8), QoS (6), retain (1)"
abbrev pub flag_dup : ℕ → ℕ
flag_dup x = x / 8 % 2

-- the same: bits 1 and 2
abbrev pub flag_qos : ℕ → ℕ
flag_qos x = x / 2 % 4

-- the same: bit 0
abbrev pub flag_retain : ℕ → ℕ
flag_retain x = x % 2

-- 01, grammar, Subscribe: "QoS bits 0-1, no-local 2, preserve-retain 3, forward rule 4-5, 6-7 ignored"; o is the options byte
abbrev pub option_qos : ℕ → ℕ
option_qos o = o % 4

-- the same: bit 2
abbrev pub option_no_local : ℕ → ℕ
option_no_local o = o / 4 % 2

-- the same: bit 3
abbrev pub option_preserve : ℕ → ℕ
option_preserve o = o / 8 % 2

-- the same: bits 4 and 5
abbrev pub option_rule : ℕ → ℕ
option_rule o = o / 16 % 4

-- 01, grammar, Publish: topic, identifier, block, payload
abbrev pub mk_publish : {S : Type 0} {L : Type 0 → Type 0} → ℕ → S × (ℕ × (Option (PublishProps S L) × S)) → PacketOf S L
mk_publish x v = publish (record { dup = flag_dup x; qos = flag_qos x; retain = flag_retain x; topic = v.0; ident = v.1.0; props = v.1.1.0; payload = v.1.1.1 })

-- 01, grammar, PubAck: identifier, reason, block
abbrev pub mk_ack : {S : Type 0} {L : Type 0 → Type 0} → ℕ → ℕ × (ℕ × Option (Props S L)) → PacketOf S L
mk_ack x v = ack (kind_of x) (record { ident = v.0; reason = v.1.0; props = v.1.1 })

-- 01, grammar, Subscribe: "text, then an options byte"
abbrev pub mk_filter : {S : Type 0} → S × ℕ → Filter S
mk_filter v = record { path = v.0; qos = option_qos v.1; no_local = option_no_local v.1; preserve = option_preserve v.1; rule = option_rule v.1 }

-- 01, grammar, Subscribe: identifier, block, filters
abbrev pub mk_subscribe : {S : Type 0} {L : Type 0 → Type 0} → ℕ × (Option (Props S L) × L (Filter S)) → PacketOf S L
mk_subscribe v = subscribe (record { ident = v.0; props = v.1.0; filters = v.1.1 })

-- 02, P1, SubAck and UnsubAck: identifier, block, reasons
abbrev pub mk_reply : {S : Type 0} {L : Type 0 → Type 0} → ℕ → ℕ × (Option (Props S L) × L ℕ) → PacketOf S L
mk_reply x v = reply (kind_of x) (record { ident = v.0; props = v.1.0; reasons = v.1.1 })

-- 02, P1, Unsubscribe: identifier, block, topics
abbrev pub mk_unsubscribe : {S : Type 0} {L : Type 0 → Type 0} → ℕ × (Option (Props S L) × L S) → PacketOf S L
mk_unsubscribe v = unsubscribe (record { ident = v.0; props = v.1.0; topics = v.1.1 })

-- 01, grammar, PingReq and PingResp: "flags and any R bytes ignored"
abbrev pub mk_ping : {S : Type 0} {L : Type 0 → Type 0} → ℕ → List ℕ → PacketOf S L
mk_ping x b = ping (kind_of x)
