-- What 01 says of the bytes, and the sentence theorem leaves open: first bytes, shortest lengths (`Shortest`), the order of properties,
-- bits 6-7 of options, a plain success, empty pings. Assumes nothing.
use mathlib.Core.Path.{◌≡◌, refl, ◌∙◌}
use mathlib.Core.Bool.{false, cond}
use mathlib.Core.Option.{Option}
use mathlib.Core.List.{List, [], ◌∷◌, ◌++◌, map}
use Prim.Native.Nat.{ℕ, ◌+◌, ◌*◌, ◌%◌}
use native.Mathlib.Omega.{arith}
use Rattle.grammar.specs.Tables.{u8, u16, u32, number, text, bytes, pair, publish_row, subscribe_row, ack_row, unsubscribe_row, reasons_of, firsts, first_of}
use Rattle.reading.specs.Reader.{got}
use Rattle.writing.specs.Lists.{flat}
use Rattle.writing.specs.Handed.{Lent, Run, PublishHanded, SubscribeHanded, AckHanded, ReplyHanded, UnsubscribeHanded, publish, ack, subscribe, reply, unsubscribe, ping, one, lent, pairs, several, publish_given, subscribe_given, ack_given, unsubscribe_given, strings, filters}
use Rattle.writing.specs.Spell.{wide, spell_step, spell, short, string, row_bytes, props_bytes, counted, block, filter_bytes}
use Rattle.writing.specs.Size.{is_plain}
use Rattle.writing.specs.Order.{raw, word, code, props_fields, filter_field, fields_of}
use Rattle.writing.specs.Write.{first_byte, ident_bytes, body_bytes, frame_bytes, write_of}
use Rattle.writing.proofs.Verdict.{written}

-- ---- the order of properties, and each row

-- 01, table of properties, row Publish: 1, 2, 35, 8, 9, 38, 11, 3
pub publish_props_lem : (h : PublishHanded) → props_bytes publish_row (publish_given h)
    ≡ row_bytes (1, u8) (one h.format)
    ++ (row_bytes (2, u32) (one h.expiry)
    ++ (row_bytes (35, u16) (one h.alias)
    ++ (row_bytes (8, text) (lent h.response)
    ++ (row_bytes (9, bytes) (lent h.correlation)
    ++ (row_bytes (38, pair) (pairs h.user)
    ++ (row_bytes (11, number) (several h.subscriptions)
    ++ (row_bytes (3, text) (lent h.content)
    ++ [])))))))
unfolding props_bytes publish_row publish_given
publish_props_lem h = refl

-- 01, table of properties, row Subscribe: 11, 38
pub subscribe_props : (h : SubscribeHanded) → props_bytes subscribe_row (subscribe_given h) ≡ row_bytes (11, number) (one h.subscription) ++ (row_bytes (38, pair) (pairs h.user) ++ [])
unfolding props_bytes subscribe_row subscribe_given
subscribe_props h = refl

-- 01, table of properties, row PubAck, and 02, P1: "31 is written before 38"
pub ack_props : (t : Lent) (u : Run) → props_bytes ack_row (ack_given t u) ≡ row_bytes (31, text) (lent t) ++ (row_bytes (38, pair) (pairs u) ++ [])
unfolding props_bytes ack_row ack_given
ack_props t u = refl

-- 02, P1: row Unsubscribe: 38
pub unsubscribe_props : (u : Run) → props_bytes unsubscribe_row (unsubscribe_given u) ≡ row_bytes (38, pair) (pairs u) ++ []
unfolding props_bytes unsubscribe_row unsubscribe_given
unsubscribe_props u = refl

-- ---- the fields that are tested, in the order in which they are written

-- 01, writing order: topic, 8, 9, pairs key then value, 3
pub publish_order : (h : PublishHanded) → fields_of (publish h)
    ≡ raw h.topic
    ∷ (cond h.response.on (word h.response.bytes ∷ []) []
    ++ (cond h.correlation.on (raw h.correlation.bytes ∷ []) []
    ++ (map word (strings h.user)
    ++ (cond h.content.on (word h.content.bytes ∷ []) []
    ++ []))))
unfolding fields_of props_fields publish_row publish_given
publish_order h = refl

-- 01, writing order: pairs, then each filter's text and options
pub subscribe_order : (h : SubscribeHanded) → fields_of (subscribe h) ≡ (map word (strings h.user) ++ []) ++ map filter_field (filters h)
unfolding fields_of props_fields subscribe_row subscribe_given
subscribe_order h = refl

-- 02, P1, the written 15 "where 14 stands": the reason; then 31, pairs
pub ack_order : (k : ℕ) (h : AckHanded) → fields_of (ack k h) ≡ code (reasons_of k) h.reason ∷ (cond h.text.on (word h.text.bytes ∷ []) [] ++ (map word (strings h.user) ++ []))
unfolding fields_of props_fields ack_row ack_given
ack_order k h = refl

-- 02, P1: 31, pairs, then each reason
pub reply_order : (k : ℕ) (h : ReplyHanded) → fields_of (reply k h) ≡ (cond h.text.on (word h.text.bytes ∷ []) [] ++ (map word (strings h.user) ++ [])) ++ map (code (reasons_of k)) h.reasons
unfolding fields_of props_fields ack_row ack_given
reply_order k h = refl

-- 02, P1: pairs, then each topic
pub unsubscribe_order : (h : UnsubscribeHanded) → fields_of (unsubscribe h) ≡ (map word (strings h.user) ++ []) ++ map word (strings h.topics)
unfolding fields_of props_fields unsubscribe_row unsubscribe_given
unsubscribe_order h = refl

-- ---- whole frames

module _ (limit : Option ℕ) (room : ℕ) (b : List ℕ) where
  -- 01, grammar, Publish: dup (8), QoS (6), retain (1); the length, topic, identifier, block, payload
  pub publish_bytes : (h : PublishHanded) → write_of limit room (publish h) ≡ got b
      → b ≡ (0x30 + (8 * h.dup + (2 * h.qos + h.retain))) ∷ counted (string h.topic ++ (ident_bytes h.qos h.ident ++ (counted (props_bytes publish_row (publish_given h)) ++ h.payload)))
  unfolding frame_bytes first_byte body_bytes block
  publish_bytes h e = written limit room (publish h) b e

  -- 01, grammar: "first byte 0x82 for Subscribe"
  pub subscribe_bytes : (h : SubscribeHanded) → write_of limit room (subscribe h) ≡ got b
      → b ≡ 0x82 ∷ counted (wide 2 h.ident ++ (counted (props_bytes subscribe_row (subscribe_given h)) ++ flat filter_bytes (filters h)))
  unfolding frame_bytes first_byte first_of firsts body_bytes block
  subscribe_bytes h e = written limit room (subscribe h) b e

  -- 02, P1: SubAck and UnsubAck
  pub reply_bytes : (k : ℕ) (h : ReplyHanded) → write_of limit room (reply k h) ≡ got b
      → b ≡ first_of k ∷ counted (wide 2 h.ident ++ (counted (props_bytes ack_row (ack_given h.text h.user)) ++ h.reasons))
  unfolding frame_bytes first_byte body_bytes block
  reply_bytes k h e = written limit room (reply k h) b e

  -- 02, P1: Unsubscribe
  pub unsubscribe_bytes : (h : UnsubscribeHanded) → write_of limit room (unsubscribe h) ≡ got b
      → b ≡ 0xA2 ∷ counted (wide 2 h.ident ++ (counted (props_bytes unsubscribe_row (unsubscribe_given h.user)) ++ flat string (strings h.topics)))
  unfolding frame_bytes first_byte first_of firsts body_bytes block
  unsubscribe_bytes h e = written limit room (unsubscribe h) b e

  -- 01, grammar: "A successful PubAck with properties absent is 4 bytes"; 02, P1: the four share it
  pub ack_plain : (k : ℕ) (h : AckHanded) → h.reason ≡ 0 → h.block ≡ false → write_of limit room (ack k h) ≡ got b → b ≡ first_of k ∷ 0x02 ∷ wide 2 h.ident
  unfolding frame_bytes first_byte body_bytes counted short spell spell_step wide
  ack_plain k h c p e = written limit room (ack k h) b e ∙ rw (c, p)

  -- 01, grammar: "any other writes reason and block"
  pub ack_full : (k : ℕ) (h : AckHanded) → is_plain h ≡ false → write_of limit room (ack k h) ≡ got b
      → b ≡ first_of k ∷ counted (wide 2 h.ident ++ (h.reason ∷ counted (props_bytes ack_row (ack_given h.text h.user))))
  unfolding frame_bytes first_byte body_bytes block
  ack_full k h p e = written limit room (ack k h) b e ∙ rw p

  -- 01, grammar: "`C0 00` and `D0 00` for pings"
  pub ping_bytes : (k : ℕ) → write_of limit room (ping k) ≡ got b → b ≡ first_of k ∷ 0x00 ∷ []
  unfolding frame_bytes first_byte body_bytes counted short spell spell_step
  ping_bytes k e = written limit room (ping k) b e

-- ---- options

-- 01, "What must change shape": "bits 6-7 written as 0 and no part of the record"
pub options_same : (s : List ℕ) (o : ℕ) → filter_bytes (s, o) ≡ filter_bytes (s, o % 64)
options_same s o = let e : o % 64 % 64 ≡ o % 64 = omega arith in rw e
