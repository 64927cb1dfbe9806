-- What `desk` learns of a stream, and which packets `desk --topic FILTER` shows: docs/DESK.md, "only the Publish frames whose topic in force
-- matches". Assumes nothing.
use Rattle.std.specs.Prelude.{Bool, true, false, cond, List, ℕ}
use Rattle.reading.specs.Reader.{Fit, got, bad}
use Rattle.records.specs.AsNumbers.{told_span}
use Rattle.records.specs.declared.packet_record.Packet.{Packet}
use Rattle.publish_parts.specs.Parts.{topic_in}
use Rattle.alias.specs.Alias.{empty, table_after, Lies, in_force, bytes_at}
use Rattle.alias.specs.AliasAnswer.{alias_in}
use Rattle.topics.specs.Match.{matches_of}

-- 02, P6: the table t after the packet, which was read from s
abbrev pub learnt_from : List ℕ → List ℕ → Packet → List ℕ
learnt_from t s (Packet.Publish m) = table_after t (topic_in s m) (alias_in m)
learnt_from t s (Packet.Ack k m) = t
learnt_from t s (Packet.Subscribe m) = t
learnt_from t s (Packet.Reply k m) = t
learnt_from t s (Packet.Unsubscribe m) = t
learnt_from t s Packet.PingReq = t
learnt_from t s Packet.PingResp = t

-- 02, P5 of P6's topic in force; a message that is refused has none
abbrev pub matches_in : List ℕ → List ℕ → List ℕ → Fit Lies → Bool
matches_in filter s t (got l) = matches_of (bytes_at s t l) filter
matches_in filter s t (bad k) = false

-- the Publish frames that match
abbrev pub is_match : List ℕ → List ℕ → List ℕ → Packet → Bool
is_match filter s t (Packet.Publish m) = matches_in filter s t (in_force s t (told_span m.topic) (alias_in m))
is_match filter s t (Packet.Ack k m) = false
is_match filter s t (Packet.Subscribe m) = false
is_match filter s t (Packet.Reply k m) = false
is_match filter s t (Packet.Unsubscribe m) = false
is_match filter s t Packet.PingReq = false
is_match filter s t Packet.PingResp = false

-- with no filter every packet
abbrev pub shows : List ℕ → List ℕ → List ℕ → Packet → Bool
shows filter s t p = cond (empty filter) true (is_match filter s t p)
