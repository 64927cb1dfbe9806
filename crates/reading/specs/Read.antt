-- The answer to every stream, in 01's reading order, with each refusal's number, values and bytes taken. It is defined once, for
-- every way to hand strings and lists back. Assumes nothing.
use Rattle.std.specs.Prelude.{Bool, true, false, not, ◌||◌, List, [], ◌∷◌, ℕ, zero, suc, ◌+◌, ◌-◌, ◌*◌, leb, ltb, length, take, drop}
use Rattle.std.proofs.Math.Option.{Option, none, some}
use Rattle.grammar.specs.Choice.{is_in, lookup, is_empty}
use Rattle.grammar.specs.Number.{big_from, shortest}
use Rattle.grammar.specs.Text.{Range, in_range, rows, row_at, cons}
use Rattle.grammar.specs.Tables.{Form, u8, u16, u32, number, text, bytes, pair, Row, publish_row, subscribe_row, ack_row, unsubscribe_row, Layout, a_publish, an_ack, a_subscribe, a_reply, an_unsubscribe, a_ping, kinds, reserved, is_ping, form_at}
use Rattle.grammar.specs.Record.{Val, num, str, PropOf, unless_empty, PublishProps, publish_props, Props, props_of, Filter, PacketOf, kind_of, flag_qos, mk_publish, mk_ack, mk_filter, mk_subscribe, mk_reply, mk_unsubscribe, mk_ping}
use Rattle.grammar.specs.Sentence.{duo_of, met, not_three, not_zero, qos_fine, rule_fine, some_of, Packet}
use Rattle.reading.specs.Refusal.{Refusal, nr, Answer, accepted, refused_as, cut, crossed, lacking, passes, exceeds}
use Rattle.reading.specs.Reader.{Fit, got, bad, Reader, Filler, ◌>>=◌, ◌>>◌, guard, none_of, never_of, map_of, only_of, only_by_of, head_of, then_of, sized_of, is_fit, map_fit, hand_fit, only_fit, then_fit, exact_fit, chain_fit, many_fit, is_got}

-- ---- numbers; c is given where the bytes end before the number does

-- 01: "Numbers are big-endian": k bytes
unfoldable pub big_of : Refusal → ℕ → Reader ℕ
big_of c k s = do
  guard (leb k (length s)) c
  got (big_from 0 (take k s), drop k s)

-- 01, grammar: a byte, as it stands
unfoldable pub byte_of : Refusal → Reader ℕ
byte_of c [] = bad c
byte_of c (x ∷ s) = got (x, s)

-- 01: "seven bits each, low group first": the byte x ends the number, or m is the rest of it
unfoldable pub group_of : Bool → ℕ → List ℕ → Fit (ℕ × List ℕ) → Fit (ℕ × List ℕ)
group_of true x s m = got (x, s)
group_of false x s m = do
  (n, r) ← m
  got (x - 128 + 128 * n, r)

-- 01, row 2: "fourth byte of a variable length number has its top bit set"
unfoldable pub groups_of : Refusal → ℕ → Reader ℕ
groups_of c zero s = bad (nr 2 [])
groups_of c (suc k) [] = bad c
groups_of c (suc k) (x ∷ s) = group_of (ltb x 128) x s (groups_of c k s)

-- 02, P8: "A variable length number that uses more bytes than it needs now gets refusal 2"
unfoldable pub num_of : Refusal → ℕ → Reader ℕ
num_of c k = only_by_of shortest (λ _ _. nr 2 []) (groups_of c k)

-- 01, row 12: "Publish, QoS 1 or 2, identifier 0"
unfoldable pub ident_of : ℕ → Reader ℕ
ident_of zero = none_of 0
ident_of (suc q) = only_of not_zero (λ _. nr 12 []) (big_of cut 2)

-- ---- text

-- Unicode, table 3-7: a byte in each cell
unfoldable pub follow_of : List Range → Reader (List ℕ)
follow_of [] = none_of []
follow_of (r ∷ rs) = map_of cons (then_of (only_of (in_range r) (λ _. nr 9 []) (byte_of (nr 9 []))) (λ _. follow_of rs))

-- Unicode, table 3-7: what the row of a first byte asks for
unfoldable pub rest_of : Option (List Range) → Reader (List ℕ)
rest_of none = never_of (nr 9 [])
rest_of (some rs) = follow_of rs

-- Unicode, table 3-7: one character
unfoldable pub char_of : Reader (List ℕ)
char_of = map_of cons (then_of (byte_of (nr 9 [])) (λ x. rest_of (row_at rows x)))

-- 01, row 9: "text not UTF-8"
unfoldable pub is_text : List ℕ → Bool
is_text b = is_got (many_fit char_of b)

-- 01: "Topic as bytes, not tested as text"
abbrev pub any_bytes : List ℕ → Bool
any_bytes b = true

-- ---- what strings and lists are handed back as

-- 01, "What must change shape". A string of bytes b that end at index `end` of the stream is handed back as `string b end`;
-- the items vs, which fill the bytes b, which end at `end`, as `run A vs b end`
pub record Shape : Type 1 where
  pub Str : Type 0
  pub Run : Type 0 → Type 0
  pub string : List ℕ → ℕ → Str
  pub run : (A : Type 0) → List A → List ℕ → ℕ → Run A

-- the language's way: bytes, and lists
abbrev pub as_bytes : Shape
as_bytes = record { Str = List ℕ; Run = List; string = λ b end. b; run = λ A vs b end. vs }

-- 01, reading order, in the header: 1 or 2 of the number R, "then 3", which tests F (02, P2)
abbrev pub length_of : Option ℕ → Reader ℕ
length_of limit = only_by_of (passes limit) (exceeds limit) (num_of (nr 1 (1 ∷ [])) 4)

-- 01: "A frame is one byte .., a variable length number R, then R bytes"; reading order: "1 while the header is incomplete, or 2; then 3; then 1"
unfoldable pub frame_of : Option ℕ → ℕ → Reader (ℕ × List ℕ)
frame_of limit end = then_of (byte_of (nr 1 (2 ∷ []))) (λ _. sized_of (length_of limit) lacking (λ _. is_fit any_bytes cut) end)

-- 01, Taken: F for each refusal of a whole frame
unfoldable pub body_answer : {A : Type 0} → ℕ → Fit A → Answer A
body_answer n (got v) = accepted v n
body_answer n (bad k) = refused_as k n

-- 01, row 13: "no filters"; 02, P1: "with no entry gets 13": one or more, to the end
abbrev pub some_fit : {A : Type 0} → Reader A → Filler (List A)
some_fit p = only_fit some_of (nr 13 []) (many_fit p)

-- 02, P1: "an unlisted reason 15"
abbrev pub reason_of : List ℕ → Reader ℕ
reason_of rs = only_of (λ c. is_in c rs) (λ c. nr 15 (c ∷ [])) (byte_of cut)

-- 02, P1: the reasons of a SubAck or UnsubAck, each of rs
unfoldable pub reasons_fit : List ℕ → ℕ → Filler (List ℕ)
reasons_fit rs end = some_fit (reason_of rs)

module _ (h : Shape) where
  -- ---- strings

  -- bytes that pass the test, handed back
  unfoldable pub string_fit : (List ℕ → Bool) → Refusal → ℕ → Filler h.Str
  string_fit t c = hand_fit (λ b _ end. h.string b end) (λ _. is_fit t c)

  -- 01: "A string is a u16 length and that many bytes"; 7, 8, then 9
  unfoldable pub bytes_of : ℕ → Reader h.Str
  bytes_of = sized_of (big_of cut 2) crossed (string_fit any_bytes cut)

  -- 01: "text must be UTF-8"
  unfoldable pub text_of : ℕ → Reader h.Str
  text_of = sized_of (big_of cut 2) crossed (string_fit is_text (nr 9 []))

  -- ---- properties

  -- 01, table of properties
  unfoldable pub value_of : Form → ℕ → Reader (Val h.Str)
  value_of u8 end = map_of num (byte_of cut)
  value_of u16 end = map_of num (big_of cut 2)
  value_of u32 end = map_of num (big_of cut 4)
  value_of number end = map_of num (only_of not_zero (λ _. nr 23 []) (num_of cut 4))
  value_of text end = map_of str (text_of end)
  value_of bytes end = map_of str (bytes_of end)
  value_of pair end = map_of duo_of (then_of (text_of end) (λ _. text_of end))

  -- 01, row 10: "identifier not in its place's row"
  unfoldable pub value_at : Option Form → ℕ → ℕ → Reader (PropOf h.Str)
  value_at none i end s = bad (nr 10 (i ∷ []))
  value_at (some k) i end s = do
    (v, r) ← value_of k end s
    got ((i, v), r)

  -- 01: "an identifier byte and a value"
  unfoldable pub property_of : Row → ℕ → Reader (PropOf h.Str)
  property_of row end [] = bad cut
  property_of row end (i ∷ s) = value_at (form_at row i) i end s

  -- 02, P9: "when its identifier byte is met": σ were met and may not come again; they are in the row, so none of them gets 10
  unfoldable pub once_of : Row → ℕ → List ℕ → Reader (PropOf h.Str)
  once_of row end σ = head_of (λ i. not (is_in i σ)) (λ i. nr 22 (i ∷ [])) (property_of row end)

  -- 01, grammar: "filled exactly by properties"
  unfoldable pub properties_fit : Row → ℕ → Filler (List (PropOf h.Str))
  properties_fit row end = chain_fit (met row) (once_of row end) []

  -- 01: "A property block is a variable length number L and L bytes"; f makes the record
  unfoldable pub block_of : {A : Type 0} → Row → (List (PropOf h.Str) → List ℕ → ℕ → A) → ℕ → Reader A
  block_of row f = sized_of (num_of cut 4) crossed (hand_fit f (properties_fit row))

  -- 01: "L = 0 means absent"; Publish
  abbrev pub publish_as : List (PropOf h.Str) → List ℕ → ℕ → Option (PublishProps h.Str h.Run)
  publish_as ps b end = unless_empty (publish_props h.Str h.Run (λ vs. h.run (Val h.Str) vs b end)) ps

  -- 01: "L = 0 means absent"; any other place
  abbrev pub props_as : List (PropOf h.Str) → List ℕ → ℕ → Option (Props h.Str h.Run)
  props_as ps b end = unless_empty (props_of h.Str h.Run (λ vs. h.run (Val h.Str) vs b end)) ps

  -- ---- bodies

  -- 01, grammar, PubAck: "at R = 3 a reason and no block; from R = 4 a reason and a block that ends the frame"; row 7: "bytes after a PubAck's block"
  unfoldable pub ack_block_fit : Row → ℕ → Filler (Option (Props h.Str h.Run))
  ack_block_fit row end [] = got none
  ack_block_fit row end (x ∷ r) = exact_fit (block_of row props_as end) cut (x ∷ r)

  -- 01, grammar, PubAck: "at R = 2 success and no block"; row 15: "not one of the nine", tested before the block
  unfoldable pub ack_rest_fit : Row → List ℕ → ℕ → Filler (ℕ × Option (Props h.Str h.Run))
  ack_rest_fit row rs end [] = got (0, none)
  ack_rest_fit row rs end (c ∷ r) = do
    guard (is_in c rs) (nr 15 (c ∷ []))
    ps ← ack_block_fit row end r
    got (c, ps)

  -- 01, rows 14 and 11: "within a filter the forward rule before QoS"
  unfoldable pub filter_of : ℕ → Reader (Filter h.Str)
  filter_of end = map_of mk_filter (then_of (text_of end) (λ _. only_of qos_fine (λ _. nr 11 (3 ∷ [])) (only_of rule_fine (λ _. nr 14 (3 ∷ [])) (byte_of cut))))

  -- 01, row 13: "no filters"
  unfoldable pub filters_fit : ℕ → Filler (List (Filter h.Str))
  filters_fit end = some_fit (filter_of end)

  -- 02, P1: the topics of an Unsubscribe, each a text
  unfoldable pub topics_fit : ℕ → Filler (List h.Str)
  topics_fit end = some_fit (text_of end)

  -- 01: "Topic as bytes, ..; u16 identifier ..; block; the rest is payload"
  unfoldable pub message_fit : ℕ → ℕ → Filler (PacketOf h.Str h.Run)
  message_fit x end =
      map_fit (mk_publish x) (then_fit (bytes_of end) (λ _. then_fit (ident_of (flag_qos x)) (λ _. then_fit (block_of publish_row publish_as end) (λ _. string_fit any_bytes cut end))))

  -- 01, reading order: "then QoS for Publish; then fields left to right"
  unfoldable pub fields_fit : Layout → ℕ → ℕ → Filler (PacketOf h.Str h.Run)
  fields_fit a_publish x end b = do
    guard (not_three (flag_qos x)) (nr 11 (3 ∷ []))
    message_fit x end b
  fields_fit (an_ack rs) x end b = map_fit (mk_ack x) (then_fit (big_of cut 2) (λ _. ack_rest_fit ack_row rs end)) b
  fields_fit a_subscribe x end b =
      map_fit mk_subscribe (then_fit (big_of cut 2) (λ _. then_fit (block_of subscribe_row props_as end) (λ _. hand_fit (λ vs. h.run (Filter h.Str) vs) filters_fit end))) b
  fields_fit (a_reply rs) x end b =
      map_fit (mk_reply x) (then_fit (big_of cut 2) (λ _. then_fit (block_of ack_row props_as end) (λ _. hand_fit (λ vs. h.run ℕ vs) (reasons_fit rs) end))) b
  fields_fit an_unsubscribe x end b =
      map_fit mk_unsubscribe (then_fit (big_of cut 2) (λ _. then_fit (block_of unsubscribe_row props_as end) (λ _. hand_fit (λ vs. h.run h.Str vs) topics_fit end))) b
  fields_fit a_ping x end b = map_fit (mk_ping x) (is_fit any_bytes cut) b

  -- 01, row 6, as 02's P1 leaves it: "kind 1, 2, .. 14"
  unfoldable pub layout_fit : Option Layout → ℕ → ℕ → Filler (PacketOf h.Str h.Run)
  layout_fit none x end b = bad (nr 6 (kind_of x ∷ []))
  layout_fit (some f) x end b = fields_fit f x end b

  -- 01, reading order: "then 4, 5, 6"; row 5: "R = 0, kind not a ping"
  unfoldable pub body_fit : ℕ → ℕ → Filler (PacketOf h.Str h.Run)
  body_fit x end b = do
    guard (not (is_in (kind_of x) reserved)) (nr 4 (kind_of x ∷ []))
    guard (is_ping (lookup kinds (kind_of x)) || not (is_empty b)) (nr 5 [])
    layout_fit (lookup kinds (kind_of x)) x end b

  -- ---- the answer; n bytes are the frame

  -- the answer to a whole frame: its first byte and its body, which ends where the frame does
  unfoldable pub whole_answer : ℕ → ℕ × List ℕ → Answer (PacketOf h.Str h.Run)
  whole_answer n z = body_answer n (body_fit z.0 n z.1)

  -- 01, Taken: 0 where the frame is not whole, its own length is malformed, or it is above the limit
  unfoldable pub frame_answer : List ℕ → Fit ((ℕ × List ℕ) × List ℕ) → Answer (PacketOf h.Str h.Run)
  frame_answer s (got z) = whole_answer (length s - length z.1) z.0
  frame_answer s (bad k) = refused_as k 0

  -- demand 1: the answer to any stream s, under a limit or none
  unfoldable pub read_as : Option ℕ → List ℕ → Answer (PacketOf h.Str h.Run)
  read_as limit s = frame_answer s (frame_of limit (length s) s)

-- ---- demand 3 speaks of bytes

-- demand 3: the answer in bytes; strings are bytes, and lists are lists
abbrev pub read_of : Option ℕ → List ℕ → Answer Packet
read_of = read_as as_bytes
