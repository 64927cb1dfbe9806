-- The bytes of a frame, the size, what a write gives, and the output afterwards. Assumes nothing.
use Rattle.std.specs.Prelude.{cond, ◌≡◌, List, [], ◌∷◌, ◌++◌, ℕ, ◌+◌, ◌*◌, leb, length, drop}
use Rattle.std.proofs.Math.Option.{Option}
use Rattle.grammar.specs.Tables.{publish_row, subscribe_row, ack_row, unsubscribe_row, first_of}
use Rattle.reading.specs.Refusal.{nr}
use Rattle.reading.specs.Reader.{Fit, got, bad, ◌>>◌, ◌>>=◌, guard}
use Rattle.writing.specs.Lists.{flat}
use Rattle.writing.specs.Handed.{Handed, publish, ack, subscribe, reply, unsubscribe, ping, publish_given, subscribe_given, ack_given, unsubscribe_given, strings, filters, belongs}
use Rattle.writing.specs.Spell.{wide, string, counted, block, filter_bytes}
use Rattle.writing.specs.Size.{most, no_ident, is_plain, rest_is, size_is}
use Rattle.writing.specs.Order.{permit}

-- ---- the first byte

-- 01, grammar, Publish: "flags are dup (8), QoS (6), retain (1)"
unfoldable pub first_byte : Handed → ℕ
first_byte (publish h) = 0x30 + (8 * h.dup + (2 * h.qos + h.retain))
first_byte (ack k h) = first_of k
first_byte (subscribe h) = first_of 8
first_byte (reply k h) = first_of k
first_byte (unsubscribe h) = first_of 10
first_byte (ping k) = first_of k

-- ---- the R bytes

-- 01, grammar: "QoS 0 writes no identifier"; writing order: "leaves out a Publish identifier that is 0"
abbrev pub ident_bytes : ℕ → ℕ → List ℕ
ident_bytes q i = cond (no_ident q i) [] (wide 2 i)

-- 01, grammar: each kind
unfoldable pub body_bytes : Handed → List ℕ
body_bytes (publish h) = string h.topic ++ (ident_bytes h.qos h.ident ++ (block publish_row (publish_given h) ++ h.payload))
body_bytes (ack k h) = wide 2 h.ident ++ cond (is_plain h) [] (h.reason ∷ block ack_row (ack_given h.text h.user))
body_bytes (subscribe h) = wide 2 h.ident ++ (block subscribe_row (subscribe_given h) ++ flat filter_bytes (filters h))
body_bytes (reply k h) = wide 2 h.ident ++ (block ack_row (ack_given h.text h.user) ++ h.reasons)
body_bytes (unsubscribe h) = wide 2 h.ident ++ (block unsubscribe_row (unsubscribe_given h.user) ++ flat string (strings h.topics))
body_bytes (ping k) = []

-- 01, grammar: "A frame is one byte .., a variable length number R, then R bytes"
unfoldable pub frame_bytes : Handed → List ℕ
frame_bytes h = first_byte h ∷ counted (body_bytes h)

-- ---- the answers

-- 01: "Asked alone, size refuses only with 20, then 17 for R"
unfoldable pub size_of : Handed → Fit ℕ
size_of h = do
  guard (belongs h) (nr 20 [])
  guard (leb (rest_is h) most) (nr 17 [])
  got (size_is h)

-- what a write gives under a limit, into an output of `room` bytes
unfoldable pub write_of : Option ℕ → ℕ → Handed → Fit (List ℕ)
write_of limit room h = do
  permit limit room h
  got (frame_bytes h)

-- 01: an accepted write "gives that size"
unfoldable pub answer_of : Option ℕ → ℕ → Handed → Fit ℕ
answer_of limit room h = do
  permit limit room h
  got (size_is h)

-- 01: "A refused write leaves the output as it stood. An accepted one sets the first size bytes, .. and keeps the rest"
abbrev pub leaves : List ℕ → Fit (List ℕ) → List ℕ
leaves out (got b) = b ++ drop (length b) out
leaves out (bad k) = out

-- 01, writing order: the output after the write, refused or accepted
unfoldable pub out_of : Option ℕ → List ℕ → Handed → List ℕ
out_of limit out h = leaves out (write_of limit (length out) h)

-- what every writer's contract says: what its answer tells, and the output before and after
pub record Written (limit : Option ℕ) (h : Handed) (before after : List ℕ) (told : Fit ℕ) : Type 0 where
  pub answer : told ≡ answer_of limit (length before) h
  pub output : after ≡ out_of limit before h

-- ---- where something may be refused before all else: parts of another kind (01, row 20), and in the header numbers that are none of the record's

-- the refusal, or the answer of `size`
unfoldable pub sized_behind : Fit Handed → Fit ℕ
sized_behind f = f >>= size_of

-- 01, writing order: the refusal, or the answer of the write
unfoldable pub answered_behind : Fit Handed → Option ℕ → List ℕ → Fit ℕ
answered_behind f limit before = f >>= answer_of limit (length before)

-- 01: "A refused write leaves the output as it stood": the output afterwards
unfoldable pub out_behind : Fit Handed → Option ℕ → List ℕ → List ℕ
out_behind f limit before = leaves before (f >>= write_of limit (length before))

-- what the contract of such a writer says: what its answer tells, and the output before and after
pub record WrittenBehind (limit : Option ℕ) (f : Fit Handed) (before after : List ℕ) (told : Fit ℕ) : Type 0 where
  pub answer : told ≡ answered_behind f limit before
  pub output : after ≡ out_behind f limit before
