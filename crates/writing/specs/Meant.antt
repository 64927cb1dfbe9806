-- The value of what is handed over: the packet that a caller means, and the packet that the bytes say. Assumes nothing.
use Rattle.std.specs.Prelude.{◌≡◌, Bool, true, cond, List, map, ℕ, ◌<◌, eqb}
use Rattle.std.proofs.Math.Option.{Option, none, some}
use Rattle.grammar.specs.Choice.{lookup, is_empty}
use Rattle.grammar.specs.Tables.{publish_row, subscribe_row, ack_row, unsubscribe_row, an_ack, a_reply, a_ping, kinds, reasons_of}
use Rattle.grammar.specs.Record.{num, str, PublishProps, Props, mk_filter}
use Rattle.grammar.specs.Sentence.{Value, Packet}
use Rattle.grammar.specs.Record as g
use Rattle.grammar.specs.Octets.{Octets}
use Rattle.reading.specs.Place.{on_some}
use Rattle.writing.specs.Handed.{Lent, Run, PublishHanded, SubscribeHanded, AckHanded, ReplyHanded, UnsubscribeHanded, Handed, publish, ack, subscribe, reply, unsubscribe, ping, publish_given, subscribe_given, ack_given, unsubscribe_given, strings, duos, entries, filters}

-- ---- properties

-- a number, if there is one
abbrev pub numeral_of : Option ℕ → Option Value
numeral_of = on_some num

-- a string, if it is present
abbrev pub string_of : Lent → Option Value
string_of l = cond l.on (some (str l.bytes)) none

-- 01, table of properties, row Publish
abbrev pub publish_set : PublishHanded → PublishProps (List ℕ) List
publish_set h = record {
  format = numeral_of h.format;
  expiry = numeral_of h.expiry;
  alias = numeral_of h.alias;
  response = string_of h.response;
  correlation = string_of h.correlation;
  user = duos (strings h.user);
  subscriptions = map num h.subscriptions;
  content = string_of h.content;
}

-- 01, table of properties, row Subscribe
abbrev pub subscribe_set : SubscribeHanded → Props (List ℕ) List
subscribe_set h = record { reason = none; ident = numeral_of h.subscription; user = duos (strings h.user) }

-- 01, table of properties, row PubAck
abbrev pub ack_set : Lent → Run → Props (List ℕ) List
ack_set text user = record { reason = string_of text; ident = none; user = duos (strings user) }

-- 02, P1: row Unsubscribe
abbrev pub unsubscribe_set : Run → Props (List ℕ) List
unsubscribe_set user = record { reason = none; ident = none; user = duos (strings user) }

-- ---- packets, with an identifier and a set of properties

-- 01, grammar: "Publish (3)"
abbrev pub the_publish : PublishHanded → ℕ → Option (PublishProps (List ℕ) List) → Packet
the_publish h i ps = g.publish (record { dup = h.dup; qos = h.qos; retain = h.retain; topic = h.topic; ident = i; props = ps; payload = h.payload })

-- 01, grammar: "PubAck (4)"; k is the number of the kind
abbrev pub the_ack : ℕ → AckHanded → Option (Props (List ℕ) List) → Packet
the_ack k h ps = g.ack k (record { ident = h.ident; reason = h.reason; props = ps })

-- 01, grammar: "Subscribe (8)"
abbrev pub the_subscribe : SubscribeHanded → Option (Props (List ℕ) List) → Packet
the_subscribe h ps = g.subscribe (record { ident = h.ident; props = ps; filters = map mk_filter (filters h) })

-- 02, P1: SubAck and UnsubAck
abbrev pub the_reply : ℕ → ReplyHanded → Option (Props (List ℕ) List) → Packet
the_reply k h ps = g.reply k (record { ident = h.ident; props = ps; reasons = h.reasons })

-- 02, P1: Unsubscribe
abbrev pub the_unsubscribe : UnsubscribeHanded → Option (Props (List ℕ) List) → Packet
the_unsubscribe h ps = g.unsubscribe (record { ident = h.ident; props = ps; topics = strings h.topics })

-- the record: what the caller means
unfoldable pub meant : Handed → Packet
meant (publish h) = the_publish h h.ident (cond h.block (some (publish_set h)) none)
meant (ack k h) = the_ack k h (cond h.block (some (ack_set h.text h.user)) none)
meant (subscribe h) = the_subscribe h (cond h.block (some (subscribe_set h)) none)
meant (reply k h) = the_reply k h (cond h.block (some (ack_set h.text h.user)) none)
meant (unsubscribe h) = the_unsubscribe h (cond h.block (some (unsubscribe_set h.user)) none)
meant (ping k) = g.ping k

-- a property set has nothing in it
abbrev pub none_publish : PublishHanded → Bool
none_publish h = is_empty (entries publish_row (publish_given h))

-- the same of an acknowledgement
abbrev pub none_ack : Lent → Run → Bool
none_ack text user = is_empty (entries ack_row (ack_given text user))

-- the same of a Subscribe
abbrev pub none_subscribe : SubscribeHanded → Bool
none_subscribe h = is_empty (entries subscribe_row (subscribe_given h))

-- the same of an Unsubscribe
abbrev pub none_unsubscribe : Run → Bool
none_unsubscribe user = is_empty (entries unsubscribe_row (unsubscribe_given user))

-- what the bytes say: 01, grammar: "QoS 0 writes no identifier"; reading back: a set present but empty "writes length 0 and reads as absent"
unfoldable pub said : Handed → Packet
said (publish h) = the_publish h (cond (eqb h.qos 0) 0 h.ident) (cond (none_publish h) none (some (publish_set h)))
said (ack k h) = the_ack k h (cond (none_ack h.text h.user) none (some (ack_set h.text h.user)))
said (subscribe h) = the_subscribe h (cond (none_subscribe h) none (some (subscribe_set h)))
said (reply k h) = the_reply k h (cond (none_ack h.text h.user) none (some (ack_set h.text h.user)))
said (unsubscribe h) = the_unsubscribe h (cond (none_unsubscribe h.user) none (some (unsubscribe_set h.user)))
said (ping k) = g.ping k

-- ---- what the types of the code ensure: lent bytes are u8, numbers are of their widths; nothing is assumed of lengths, options bytes
-- and subscription identifiers

-- a number of the width, if there is one
abbrev pub Below : ℕ → Option ℕ → Type 0
Below m none = Unit {0}
Below m (some n) = n < m

-- dup and retain are bools, QoS has three cases; lent strings are bytes
pub record PublishTyped (h : PublishHanded) : Type 0 where
  pub dup : h.dup < 2
  pub qos : h.qos < 3
  pub retain : h.retain < 2
  pub topic : Octets h.topic
  pub ident : h.ident < 65536
  pub format : Below 256 h.format
  pub expiry : Below 4294967296 h.expiry
  pub alias : Below 65536 h.alias
  pub response : Octets h.response.bytes
  pub correlation : Octets h.correlation.bytes
  pub user : Octets h.user.bytes
  pub content : Octets h.content.bytes
  pub payload : Octets h.payload

-- an acknowledgement of a kind that is carried; its reason may be any byte
pub record AckTyped (k : ℕ) (h : AckHanded) : Type 0 where
  pub kind : lookup kinds k ≡ some (an_ack (reasons_of k))
  pub reason : h.reason < 256
  pub ident : h.ident < 65536
  pub text : Octets h.text.bytes
  pub user : Octets h.user.bytes

-- its options bytes and lengths may be any
pub record SubscribeTyped (h : SubscribeHanded) : Type 0 where
  pub ident : h.ident < 65536
  pub user : Octets h.user.bytes
  pub filters : Octets h.filters.bytes

-- a reply of a kind that is carried; its reasons may be any bytes
pub record ReplyTyped (k : ℕ) (h : ReplyHanded) : Type 0 where
  pub kind : lookup kinds k ≡ some (a_reply (reasons_of k))
  pub ident : h.ident < 65536
  pub text : Octets h.text.bytes
  pub user : Octets h.user.bytes
  pub reasons : Octets h.reasons

-- its lengths may be any
pub record UnsubscribeTyped (h : UnsubscribeHanded) : Type 0 where
  pub ident : h.ident < 65536
  pub user : Octets h.user.bytes
  pub topics : Octets h.topics.bytes

-- each kind; a ping of a kind that is carried
abbrev pub Typed : Handed → Type 0
Typed (publish h) = PublishTyped h
Typed (ack k h) = AckTyped k h
Typed (subscribe h) = SubscribeTyped h
Typed (reply k h) = ReplyTyped k h
Typed (unsubscribe h) = UnsubscribeTyped h
Typed (ping k) = lookup kinds k ≡ some a_ping

-- ---- 01, reading back: "QoS 0 has identifier 0, and no property set is present but empty"

-- the set is not present but empty
abbrev pub Filled : Bool → Bool → Type 0
Filled block empty = block ≡ true → empty ≡ true → ⊥

-- both conditions, of each kind
abbrev pub Plain : Handed → Type 0
Plain (publish h) = (h.qos ≡ 0 → h.ident ≡ 0) × Filled h.block (none_publish h)
Plain (ack k h) = Filled h.block (none_ack h.text h.user)
Plain (subscribe h) = Filled h.block (none_subscribe h)
Plain (reply k h) = Filled h.block (none_ack h.text h.user)
Plain (unsubscribe h) = Filled h.block (none_unsubscribe h.user)
Plain (ping k) = Unit {0}
