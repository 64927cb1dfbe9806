-- What the parts and the items of a record are to say. Assumes nothing.
use Rattle.std.specs.Prelude as std
use Rattle.std.specs.Prelude.{◌≡◌, List, ℕ}
use Rattle.std.proofs.Math.Option.{Option}
use Rattle.std.specs.Borrow.{Bor}
use Rattle.grammar.specs.Tables.{Row}
use Rattle.grammar.specs.Record as record_of
use Rattle.grammar.specs.Sentence.{Value}
use Rattle.reading.specs.Place.{nth_of, on_got, held_of, say_val, say_filter}
use Rattle.reading.specs.Place as place
use Rattle.records.specs.AsNumbers.{told_span}
use Rattle.records.specs.Answered.{told_user, told_identifier, told_filter_item, told_reason_item, told_topic_item}
use Rattle.records.specs.declared.publish_record.Publish.{Publish}
use Rattle.records.specs.declared.span.Span.{Span}
use Rattle.wire.specs.Part.{PartAt, place_if}
use Rattle.wire.specs.StringRead.{string_if, in_block}
use Rattle.items.specs.Nth.{NthUser, NthIdentifier}
use Rattle.ack.specs.AckRead.{reason}
use Rattle.filter_runs.specs.FilterRun.{NthFilter}
use Rattle.entry_runs.specs.EntryRun.{NthReason, NthTopic}
use Rattle.records.specs.declared.reply_record.ReplyKind.{ReplyKind}
use Rattle.publish_parts.specs.Parts.{response, correlation, content}
use Rattle.records.specs.declared.subscribe_record.Filter.{Filter}
use Rattle.records.specs.declared.properties_record.Properties.{Properties}

-- ---- parts

-- a string that is its own bytes
abbrev pub itself : List ℕ → List ℕ
itself b = b

-- 01: "topic and payload are handed back as parts of the caller's stream", "with contract on which part": every part r of a stream with the bytes s
-- that meets the contract of `part` at p, the part at that address, has the bytes b
abbrev pub PartSays : List ℕ → place.Span → List ℕ → Type 0
PartSays s p b = (q r : Bor (List ℕ)) → q.now ≡ s → PartAt q p r → r.now ≡ b

-- the parts that `publish_parts` gives of m, each by its contract, are the strings of w
pub record PublishParts (s : List ℕ) (m : Publish) (w : record_of.Publish (List ℕ) List) : Type 0 where
  pub topic : PartSays s (told_span m.topic) w.topic
  pub payload : PartSays s (told_span m.payload) w.payload
  pub response_part : PartSays s (place_if (response m)) (string_if itself (in_block (λ ps. ps.response) w.props))
  pub correlation_part : PartSays s (place_if (correlation m)) (string_if itself (in_block (λ ps. ps.correlation) w.props))
  pub content_part : PartSays s (place_if (content m)) (string_if itself (in_block (λ ps. ps.content) w.props))

-- the same of the reason string of an acknowledgement or reply with these properties, which `ack` gives
pub record ReasonPart (s : List ℕ) (properties : std.Option Properties) (w : Option (record_of.Props (List ℕ) List)) : Type 0 where
  pub reason_part : PartSays s (place_if (reason properties)) (string_if itself (in_block (λ ps. ps.reason) w))

-- ---- items

-- 01: "a way to get the n-th pair, identifier or filter, n from 0": every answer that meets the contract of `items::user_property`, of the
-- block b in a row of 01's table, says the k-th of vs, and 21 past the last
abbrev pub UserItems : List ℕ → Row → Span → List Value → Type 0
UserItems s place b vs = (k : ℕ) (u : std.Option (Span × Span)) → NthUser place s b k u → on_got (say_val s) (told_user u) ≡ nth_of k vs

-- the same of `items::subscription_identifier`
abbrev pub IdentifierItems : List ℕ → Span → List Value → Type 0
IdentifierItems s b vs = (k : ℕ) (u : std.Option ℕ) → NthIdentifier s b k u → on_got (say_val s) (told_identifier u) ≡ nth_of k vs

-- and of `filter_runs::filter`, of the run at b
abbrev pub FilterItems : List ℕ → Span → List (record_of.Filter (List ℕ)) → Type 0
FilterItems s b fs = (k : ℕ) (u : std.Option Filter) → NthFilter s b k u → on_got (say_filter s) (told_filter_item u) ≡ nth_of k fs

-- 02, P1: of `entry_runs::reason`, of the run at b in a frame of the kind
abbrev pub ReasonItems : List ℕ → ReplyKind → Span → List ℕ → Type 0
ReasonItems s kind b cs = (k : ℕ) (u : std.Option ℕ) → NthReason s b kind k u → told_reason_item u ≡ nth_of k cs

-- 02, P1: and of `entry_runs::topic`, of the run at b
abbrev pub TopicItems : List ℕ → Span → List (List ℕ) → Type 0
TopicItems s b ts = (k : ℕ) (u : std.Option Span) → NthTopic s b k u → on_got (held_of s) (told_topic_item u) ≡ nth_of k ts
