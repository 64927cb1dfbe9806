-- The contract that an answer of a writer meets, its refusals, and what the types of its arguments ensure. Assumes nothing.
use Rattle.std.specs.Prelude.{◌≡◌, Bool, true, false, List, [], ◌∷◌, ℕ, ◌<◌, Option, Result, Ok}
use Rattle.grammar.specs.Octets.{Octets}
use Rattle.grammar.specs.Sentence.{Packet}
use Rattle.reading.specs.Refusal.{Refusal, nr}
use Rattle.reading.specs.Reader.{got, ◌>>◌, guard}
use Rattle.writing.specs.Handed.{Handed}
use Rattle.writing.specs.Meant.{Below}
use Rattle.reading.specs.Place.{say, Items}
use Rattle.records.specs.AsNumbers.{limit_of, number_if}
use Rattle.records.specs.Said.{told_packet}
use Rattle.records.specs.Answered.{told_size, ReadResult}
use Rattle.records.specs.declared.span.Bounds.{Bounds}
use Rattle.records.specs.declared.packet_record.Packet as code
use Rattle.publish_plan.specs.declared.head.PublishHead.{PublishHead}
use Rattle.ack_write.specs.declared.AckHead.{AckHead}
use Rattle.packet_write.specs.Parts.{Parts}
use Rattle.writing.specs.Write.{sized_behind, WrittenBehind}
use Rattle.packet_write.specs.declared.head.PacketHead.{PacketHead}
use Rattle.records.specs.declared.error.Error.{Error}

-- ---- the contract

-- of the answer w and the output before and after, where h is handed over; `alone` says whether nothing is lent that does not belong to it
abbrev pub Obeys : Option ℕ → Bool → Handed → List ℕ → List ℕ → Result ℕ Error → Type 0
Obeys limit alone h before after w = WrittenBehind (limit_of limit) (guard alone (nr 20 []) >> got h) before after (told_size w)

-- the same of the answer z of a `size`
abbrev pub Counts : Bool → Handed → Result ℕ Error → Type 0
Counts alone h z = told_size z ≡ sized_behind (guard alone (nr 20 []) >> got h)

-- demand 2: "A written record reads back equal": the answer r says v: it is a record, its places say v, its items are those of v, and n bytes are taken;
-- 02, P7: "Comparing a record read back with one written leaves these two numbers aside": whatever they are
abbrev pub ReadsAs : List ℕ → ReadResult → Packet → ℕ → Type 0
ReadsAs s r v n = (p : code.Packet) × (b : Bounds) × (r ≡ Ok (p, b, n)) × (say s (told_packet p) ≡ got v) × Items s (told_packet p) v

-- 01, writing order: 20 for what does not belong to the record, else what P says
pub data Refusing (P : Refusal → Type 0) : Bool → Refusal → Type 0 where
  foreign : Refusing P false (nr 20 [])
  own : {k : Refusal} → P k → Refusing P true k

-- 01, writing order: "20; then 18, and 9 ..; with 14 then 11 ..; 17 ..; 16; 12; 17 ..; 13; 19": the refusals of a writer; 02, P1: "an unlisted
-- reason 15, read or written"; 02, P9: SubscriptionIdZero
abbrev pub writer_rows : List ℕ
writer_rows = 9 ∷ 11 ∷ 12 ∷ 13 ∷ 14 ∷ 15 ∷ 16 ∷ 17 ∷ 18 ∷ 19 ∷ 20 ∷ 23 ∷ []

-- ---- what the types of the arguments ensure: u8, u16 and u32 are below their bounds; nothing of a usize

-- of a Publish by value
pub record PublishWidths (m : PublishHead) : Type 0 where
  pub pkid : m.pkid < 65536
  pub format : Below 256 (number_if m.payload_format_indicator)
  pub expiry : Below 4294967296 (number_if m.message_expiry_interval)
  pub alias : Below 65536 (number_if m.topic_alias)

-- of a publish acknowledgement by value
pub record AckWidths (m : AckHead) : Type 0 where
  pub pkid : m.pkid < 65536
  pub reason : m.reason < 256

-- of a packet by value
abbrev pub Widths : PacketHead → Type 0
Widths (PacketHead.Publish m) = PublishWidths m
Widths (PacketHead.Ack m) = AckWidths m
Widths (PacketHead.Subscribe m) = m.pkid < 65536
Widths (PacketHead.Reply m) = m.pkid < 65536
Widths (PacketHead.Unsubscribe m) = m.pkid < 65536
Widths PacketHead.PingReq = Unit {0}
Widths PacketHead.PingResp = Unit {0}

-- of the lent parts
pub record LentOctets (p : Parts) : Type 0 where
  pub topic : Octets p.topic
  pub response : Octets p.response
  pub correlation : Octets p.correlation
  pub user : Octets p.user
  pub content : Octets p.content
  pub payload : Octets p.payload
  pub reason : Octets p.reason
  pub entry_bytes : Octets p.entry_bytes
  pub entries : Octets p.entries
