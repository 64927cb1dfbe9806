-- The size of what is written, as a sum over what is handed over. Assumes nothing.
use Rattle.std.specs.Prelude.{Bool, not, ◌&&◌, ◌||◌, cond, List, ℕ, ◌+◌, ◌*◌, ◌/◌, leb, ltb, eqb, length}
use Rattle.std.proofs.Math.Option.{none, some}
use Rattle.grammar.specs.Tables.{Form, u8, u16, u32, number, text, bytes, pair, Row, publish_row, subscribe_row, ack_row, unsubscribe_row}
use Rattle.writing.specs.Lists.{total}
use Rattle.writing.specs.Handed.{Run, AckHanded, Handed, publish, ack, subscribe, reply, unsubscribe, ping, Given, one, lent, pairs, several, Givens, publish_given, subscribe_given, ack_given, unsubscribe_given}

-- 01, "Lengths": how many bytes spell a number; writing order: "counts four bytes for a subscription identifier too large to write"
abbrev pub len_len : ℕ → ℕ
len_len n = cond (ltb n 128) 1 (cond (ltb n 16384) 2 (cond (ltb n 2097152) 3 4))

-- 01, grammar: "Largest: 268,435,455"
abbrev pub most : ℕ
most = 268435455

-- n bytes with their number in front
abbrev pub with_length : ℕ → ℕ
with_length n = len_len n + n

-- ---- properties

-- 01, table of properties: a number of each form
abbrev pub num_size : Form → ℕ → ℕ
num_size u8 n = 1
num_size u16 n = 2
num_size u32 n = 4
num_size number n = len_len n
num_size text n = 0
num_size bytes n = 0
num_size pair n = 0

-- 01, table of properties: all values of a row, each with its identifier byte; a string has two bytes of length, a pair twice two
abbrev pub given_size : Form → Given → ℕ
given_size f (one none) = 0
given_size f (one (some n)) = 1 + num_size f n
given_size f (lent l) = cond l.on (3 + length l.bytes) 0
given_size f (pairs r) = length r.bytes + 5 * (length r.lengths / 2)
given_size f (several ns) = total (λ n. 1 + num_size f n) ns

-- L
unfoldable pub props_size : Row → Givens → ℕ
props_size row g = total (λ r. given_size r.1 (g r.0)) row.forms

-- ---- R

-- 01, writing order: "size leaves out a Publish identifier that is 0"; grammar: "QoS 0 writes no identifier"
abbrev pub no_ident : ℕ → ℕ → Bool
no_ident q i = eqb q 0 || eqb i 0

-- two bytes, if it is written
abbrev pub ident_size : ℕ → ℕ → ℕ
ident_size q i = cond (no_ident q i) 0 2

-- 01, grammar: "A successful PubAck with properties absent is 4 bytes"
abbrev pub is_plain : AckHanded → Bool
is_plain h = eqb h.reason 0 && not h.block

-- a filter has two bytes of length and its options byte
abbrev pub filters_size : List ℕ → List ℕ → ℕ
filters_size b os = length b + 3 * length os

-- 02, P1: a topic has two bytes of length
abbrev pub topics_size : Run → ℕ
topics_size r = length r.bytes + 2 * length r.lengths

-- 01, grammar: R of each kind
unfoldable pub rest_is : Handed → ℕ
rest_is (publish h) = 2 + length h.topic + (ident_size h.qos h.ident + (with_length (props_size publish_row (publish_given h)) + length h.payload))
rest_is (ack k h) = cond (is_plain h) 2 (3 + with_length (props_size ack_row (ack_given h.text h.user)))
rest_is (subscribe h) = 2 + (with_length (props_size subscribe_row (subscribe_given h)) + filters_size h.filters.bytes h.options)
rest_is (reply k h) = 2 + (with_length (props_size ack_row (ack_given h.text h.user)) + length h.reasons)
rest_is (unsubscribe h) = 2 + (with_length (props_size unsubscribe_row (unsubscribe_given h.user)) + topics_size h.topics)
rest_is (ping k) = 0

-- 01, grammar: "A frame is one byte .., a variable length number R, then R bytes"
unfoldable pub size_is : Handed → ℕ
size_is h = 1 + with_length (rest_is h)

-- ---- sums that are cut off

-- 01, row 17: "above 268,435,455": the sum itself up to there, else one more, which is as much of it as the refusal needs
abbrev pub cap : ℕ → ℕ
cap n = cond (leb n most) n (most + 1)
