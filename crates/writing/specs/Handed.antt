-- What a caller hands over to have a packet written (01, "What must change shape"): numbers and presence by value, each string as a list
-- of bytes, a list of strings as one run of bytes and the lengths. Assumes nothing.
use Rattle.std.specs.Prelude.{Bool, true, false, not, ◌&&◌, ◌||◌, cond, List, [], ◌∷◌, map, ℕ, ◌%◌, eqb, length}
use Rattle.std.proofs.Math.Option.{Option, none, some}
use Rattle.grammar.specs.Choice.{lookup, is_empty, all}
use Rattle.grammar.specs.Tables.{Form, Row, publish_row, subscribe_row, ack_row, unsubscribe_row}
use Rattle.grammar.specs.Record.{num, str, duo}
use Rattle.grammar.specs.Sentence.{Value, Prop}
use Rattle.writing.specs.Lists.{flat, sum, pieces, beside}

-- a string that may be absent
pub record Lent : Type 0 where
  pub on : Bool
  pub bytes : List ℕ

-- strings: all their bytes in one run, and the length of each
pub record Run : Type 0 where
  pub bytes : List ℕ
  pub lengths : List ℕ

-- 01, grammar: "Publish (3)"; `block` says whether a property set is present
pub record PublishHanded : Type 0 where
  pub dup : ℕ
  pub qos : ℕ
  pub retain : ℕ
  pub topic : List ℕ
  pub ident : ℕ
  pub block : Bool
  pub format : Option ℕ
  pub expiry : Option ℕ
  pub alias : Option ℕ
  pub response : Lent
  pub correlation : Lent
  pub user : Run
  pub subscriptions : List ℕ
  pub content : Lent
  pub payload : List ℕ

-- 01, grammar: "Subscribe (8)"; an options byte for each filter
pub record SubscribeHanded : Type 0 where
  pub ident : ℕ
  pub block : Bool
  pub subscription : Option ℕ
  pub user : Run
  pub filters : Run
  pub options : List ℕ

-- 01, grammar: "PubAck (4)"
pub record AckHanded : Type 0 where
  pub ident : ℕ
  pub reason : ℕ
  pub block : Bool
  pub text : Lent
  pub user : Run

-- 02, P1: SubAck and UnsubAck; the reasons as bytes
pub record ReplyHanded : Type 0 where
  pub ident : ℕ
  pub block : Bool
  pub text : Lent
  pub user : Run
  pub reasons : List ℕ

-- 02, P1: Unsubscribe
pub record UnsubscribeHanded : Type 0 where
  pub ident : ℕ
  pub block : Bool
  pub user : Run
  pub topics : Run

-- 01, modules: "Publish, Subscribe, PubAck, PingReq, PingResp"; 02, P1: the other acknowledgements, and Unsubscribe; acknowledgements,
-- replies and pings by the number of their kind
pub data Handed : Type 0 where
  publish : PublishHanded → Handed
  ack : ℕ → AckHanded → Handed
  subscribe : SubscribeHanded → Handed
  reply : ℕ → ReplyHanded → Handed
  unsubscribe : UnsubscribeHanded → Handed
  ping : ℕ → Handed

-- ---- what is handed over for a row of the table of properties

-- a number or none, a string, pairs of strings, numbers
pub data Given : Type 0 where
  one : Option ℕ → Given
  lent : Lent → Given
  pairs : Run → Given
  several : List ℕ → Given

-- by the property's identifier
abbrev pub Givens : Type 0
Givens = ℕ → Given

-- nothing for an identifier that is none of the record's
abbrev or_nothing : Option Given → Given
or_nothing none = several []
or_nothing (some g) = g

-- 01, table of properties, row Publish: the fields by their identifiers
unfoldable pub publish_given : PublishHanded → Givens
publish_given h i = or_nothing (lookup (
    (1, one h.format)
    ∷ (2, one h.expiry)
    ∷ (35, one h.alias)
    ∷ (8, lent h.response)
    ∷ (9, lent h.correlation)
    ∷ (38, pairs h.user)
    ∷ (11, several h.subscriptions)
    ∷ (3, lent h.content)
    ∷ []) i)

-- 01, table of properties, row Subscribe
unfoldable pub subscribe_given : SubscribeHanded → Givens
subscribe_given h i = or_nothing (lookup ((11, one h.subscription) ∷ (38, pairs h.user) ∷ []) i)

-- 01, table of properties, row PubAck; 02, P1: the row of all acknowledgements, "31 is written before 38"
unfoldable pub ack_given : Lent → Run → Givens
ack_given text user i = or_nothing (lookup ((31, lent text) ∷ (38, pairs user) ∷ []) i)

-- 02, P1: row Unsubscribe
unfoldable pub unsubscribe_given : Run → Givens
unsubscribe_given user i = or_nothing (lookup ((38, pairs user) ∷ []) i)

-- ---- the values in it

-- the strings of a run
abbrev pub strings : Run → List (List ℕ)
strings r = pieces r.lengths r.bytes

-- 01, table of properties: "text pair": strings two by two, key and value
abbrev pub duos : List (List ℕ) → List Value
duos [] = []
duos (k ∷ []) = []
duos (k ∷ v ∷ l) = duo k v ∷ duos l

-- the values of a row, in order
abbrev pub items : Given → List Value
items (one none) = []
items (one (some n)) = num n ∷ []
items (lent l) = cond l.on (str l.bytes ∷ []) []
items (pairs r) = duos (strings r)
items (several ns) = map num ns

-- a row of the table, and a value for it
abbrev pub Entry : Type 0
Entry = (ℕ × Form) × Value

-- the property that an entry is
abbrev pub prop_of : Entry → Prop
prop_of e = (e.0.0, e.1)

-- the values, each with its row
abbrev pub tag : ℕ × Form → List Value → List Entry
tag r [] = []
tag r (v ∷ vs) = (r, v) ∷ tag r vs

-- 01, table of properties: the properties of a block, row by row, and the values of a row in their order
unfoldable pub entries : Row → Givens → List Entry
entries row g = flat (λ r. tag r (items (g r.0))) row.forms

-- 01, "What must change shape": "an options byte for each filter"
abbrev pub filters_of : Run → List ℕ → List (List ℕ × ℕ)
filters_of r os = beside (strings r) os

-- 01, grammar, Subscribe: a filter's text, and its options byte
unfoldable pub filters : SubscribeHanded → List (List ℕ × ℕ)
filters h = filters_of h.filters h.options

-- ---- 01, row 20: whether what is handed over belongs together

-- "the lent lengths of a list do not add up to its lent bytes"
abbrev pub adds_up : Run → Bool
adds_up r = eqb (sum r.lengths) (length r.bytes)

-- "pair lengths are odd in number"; "anything is handed over for an absent value"
abbrev pub coherent : Given → Bool
coherent (one o) = true
coherent (lent l) = l.on || is_empty l.bytes
coherent (pairs r) = adds_up r && eqb (length r.lengths % 2) 0
coherent (several ns) = true

-- nothing at all
abbrev pub nothing_given : Given → Bool
nothing_given (one none) = true
nothing_given (one (some n)) = false
nothing_given (lent l) = not l.on && is_empty l.bytes
nothing_given (pairs r) = is_empty r.bytes && is_empty r.lengths
nothing_given (several ns) = is_empty ns

-- "anything is handed over for an absent .. block": what is handed over for a row, where the block is present or not
abbrev pub row_belongs : Bool → Given → Bool
row_belongs block g = coherent g && (block || nothing_given g)

-- the rows of a block
unfoldable pub block_belongs : Row → Bool → Givens → Bool
block_belongs row block g = all (λ r. row_belongs block (g r.0)) row.forms

-- "options bytes and filter lengths differ in number"
unfoldable pub filters_belong : Run → List ℕ → Bool
filters_belong r os = adds_up r && eqb (length r.lengths) (length os)

-- 01, row 20, of each kind
unfoldable pub belongs : Handed → Bool
belongs (publish h) = block_belongs publish_row h.block (publish_given h)
belongs (ack k h) = block_belongs ack_row h.block (ack_given h.text h.user)
belongs (subscribe h) = block_belongs subscribe_row h.block (subscribe_given h) && filters_belong h.filters h.options
belongs (reply k h) = block_belongs ack_row h.block (ack_given h.text h.user)
belongs (unsubscribe h) = block_belongs unsubscribe_row h.block (unsubscribe_given h.user) && adds_up h.topics
belongs (ping k) = true
