-- The frames on the bench (01), more of them, and places and items: lists, and one statement. Assumes nothing.
use mathlib.Core.Path.{◌≡◌, refl}
use mathlib.Core.Option.{Option, none, some}
use mathlib.Core.List.{List, [], ◌∷◌, ◌++◌, map}
use Prim.Native.Nat.{ℕ}
use Rattle.grammar.specs.Text.{rows}
use Rattle.grammar.specs.Tables.{publish_row, subscribe_row, ack_row, unsubscribe_row, reasons, release_reasons, sub_ack_reasons, unsub_ack_reasons, kinds}
use Rattle.grammar.specs.Record.{Val, num, str, duo, last_of, all_of, PublishProps, publish_props, props_of, Props, publish, ack, subscribe, reply, unsubscribe, ping}
use Rattle.grammar.specs.Sentence.{Packet}
use Rattle.reading.specs.Refusal.{nr, Answer, accepted, refused, within, over}
use Rattle.reading.specs.Reader.{Fit, got, bad, none_of, never_of, map_of, only_of, only_by_of, head_of, then_of, sized_of, is_fit, map_fit, hand_fit, only_fit, then_fit, exact_fit, run_fit, chain_fit}
use Rattle.reading.specs.Read.{big_of, byte_of, group_of, groups_of, num_of, ident_of, follow_of, rest_of, char_of, is_text, frame_of, body_answer, string_fit, bytes_of, text_of, value_of, value_at, property_of, once_of, properties_fit, block_of, ack_block_fit, ack_rest_fit, reasons_fit, filter_of, filters_fit, topics_fit, message_fit, fields_fit, layout_fit, body_fit, whole_answer, frame_answer, read_as, read_of}
use Rattle.reading.specs.Place.{Span, as_places, Placed, read_placed_of, again, values_at, user_at, subscription_at, filter_at, reason_at, topic_at}

-- a limit, a stream, and the answer
pub record Case : Type 0 where
  pub limit : Option ℕ
  pub sent : List ℕ
  pub answer : Answer Packet

abbrev case : Option ℕ → List ℕ → Answer Packet → Case
case l s a = record { limit = l; sent = s; answer = a }

-- a Publish of QoS 0
abbrev message : List ℕ → Option (PublishProps (List ℕ) List) → List ℕ → Packet
message t ps p = publish (record { dup = 0; qos = 0; retain = 0; topic = t; ident = 0; props = ps; payload = p })

-- a PubAck with identifier 10
abbrev acked : ℕ → Option (Props (List ℕ) List) → Packet
acked r ps = ack 4 (record { ident = 10; reason = r; props = ps })

-- 01's frame with topic a/b and payload hi
abbrev ab : List ℕ
ab = 0x30 ∷ 0x08 ∷ 0x00 ∷ 0x03 ∷ 0x61 ∷ 0x2F ∷ 0x62 ∷ 0x00 ∷ 0x68 ∷ 0x69 ∷ []

-- 01's frame with three identifiers
abbrev three : List ℕ
three = 0x30 ∷ 0x0B ∷ 0x00 ∷ 0x01 ∷ 0x61 ∷ 0x06 ∷ 0x0B ∷ 0x01 ∷ 0x0B ∷ 0x02 ∷ 0x0B ∷ 0x03 ∷ 0x07 ∷ []

-- 01, "Frames on the bench", row by row
abbrev pub bench : List Case
bench =
    case none [] (refused 1 (2 ∷ []) 0)
    ∷ case none (0x30 ∷ []) (refused 1 (1 ∷ []) 0)
    ∷ case none (0x30 ∷ 0x80 ∷ []) (refused 1 (1 ∷ []) 0)
    ∷ case none (0x30 ∷ 0x80 ∷ 0x80 ∷ 0x80 ∷ 0x80 ∷ []) (refused 2 [] 0)
    ∷ case none (0xF0 ∷ 0x00 ∷ []) (refused 4 (15 ∷ []) 2)
    ∷ case none (0x30 ∷ 0x00 ∷ []) (refused 5 [] 2)
    ∷ case none (0xC0 ∷ 0x00 ∷ []) (accepted (ping 12) 2)
    ∷ case none ab (accepted (message (0x61 ∷ 0x2F ∷ 0x62 ∷ []) none (0x68 ∷ 0x69 ∷ [])) 10)
    ∷ case (some 9) ab (refused 3 (10 ∷ 9 ∷ []) 0)
    ∷ case (some 10) ab (accepted (message (0x61 ∷ 0x2F ∷ 0x62 ∷ []) none (0x68 ∷ 0x69 ∷ [])) 10)
    ∷ case none (0x32 ∷ 0x06 ∷ 0x00 ∷ 0x01 ∷ 0x61 ∷ 0x00 ∷ 0x00 ∷ 0x00 ∷ []) (refused 12 [] 8)
    ∷ case none three (accepted (message (0x61 ∷ []) (some (record { format = none; expiry = none; alias = none; response = none; correlation = none; user = []; subscriptions = num 1 ∷ num 2 ∷ num 3 ∷ []; content = none })) (0x07 ∷ [])) 13)
    ∷ case none (0x30 ∷ 0x06 ∷ 0x00 ∷ 0x01 ∷ 0x61 ∷ 0x01 ∷ 0x01 ∷ 0x00 ∷ []) (refused 7 [] 8)
    ∷ case none (0x30 ∷ 0x03 ∷ 0x00 ∷ 0x01 ∷ 0x61 ∷ []) (refused 7 [] 5)
    ∷ case none (0x82 ∷ 0x07 ∷ 0x00 ∷ 0x01 ∷ 0x00 ∷ 0x00 ∷ 0x01 ∷ 0x61 ∷ 0x01 ∷ []) (accepted (subscribe (record { ident = 1; props = none; filters = record { path = 0x61 ∷ []; qos = 1; no_local = 0; preserve = 0; rule = 0 } ∷ [] })) 9)
    ∷ case none (0x82 ∷ 0x07 ∷ 0x00 ∷ 0x01 ∷ 0x00 ∷ 0x00 ∷ 0x01 ∷ 0x61 ∷ 0x33 ∷ []) (refused 14 (3 ∷ []) 9)
    ∷ case none (0x82 ∷ 0x03 ∷ 0x00 ∷ 0x01 ∷ 0x00 ∷ []) (refused 13 [] 5)
    ∷ case none (0x40 ∷ 0x02 ∷ 0x00 ∷ 0x0A ∷ []) (accepted (acked 0 none) 4)
    ∷ case none (0x40 ∷ 0x03 ∷ 0x00 ∷ 0x0A ∷ 0x10 ∷ []) (accepted (acked 0x10 none) 5)
    ∷ []

-- what else pins a number, a value, an order or a property
abbrev pub more : List Case
more =
    -- framing: n, the limit before completeness and kind, 4 before 5 before 6, longer spellings refused
    case none (0x30 ∷ 0x05 ∷ 0x00 ∷ []) (refused 1 (4 ∷ []) 0)
    ∷ case none (0xF0 ∷ 0x05 ∷ []) (refused 1 (5 ∷ []) 0)
    ∷ case (some 6) (0xF0 ∷ 0x05 ∷ []) (refused 3 (7 ∷ 6 ∷ []) 0)
    ∷ case (some 1) (0xC0 ∷ 0x00 ∷ []) (refused 3 (2 ∷ 1 ∷ []) 0)
    ∷ case (some 2) (0xC0 ∷ 0x00 ∷ []) (accepted (ping 12) 2)
    ∷ case none (0x00 ∷ 0x00 ∷ []) (refused 4 (0 ∷ []) 2)
    ∷ case none (0xE0 ∷ 0x00 ∷ []) (refused 5 [] 2)
    ∷ case none (0x30 ∷ 0x80 ∷ 0x00 ∷ []) (refused 2 [] 0)
    ∷ case none (0x10 ∷ 0x01 ∷ 0x00 ∷ []) (refused 6 (1 ∷ []) 3)
    ∷ case none (0xD5 ∷ 0x02 ∷ 0x01 ∷ 0x02 ∷ 0xFF ∷ []) (accepted (ping 13) 4)
    -- Publish: 11 after 5, the topic is not tested as text, 12 before the block
    ∷ case none (0x36 ∷ 0x00 ∷ []) (refused 5 [] 2)
    ∷ case none (0x36 ∷ 0x03 ∷ 0x00 ∷ 0x01 ∷ 0x61 ∷ []) (refused 11 (3 ∷ []) 5)
    ∷ case none (0x30 ∷ 0x03 ∷ 0x00 ∷ 0x05 ∷ 0x61 ∷ []) (refused 8 (5 ∷ []) 5)
    ∷ case none (0x30 ∷ 0x04 ∷ 0x00 ∷ 0x01 ∷ 0xFF ∷ 0x00 ∷ []) (accepted (message (0xFF ∷ []) none []) 6)
    ∷ case none (0x34 ∷ 0x05 ∷ 0x00 ∷ 0x01 ∷ 0x61 ∷ 0x00 ∷ 0x00 ∷ []) (refused 12 [] 7)
    ∷ case none (0x38 ∷ 0x03 ∷ 0x00 ∷ 0x00 ∷ 0x00 ∷ []) (accepted (publish (record { dup = 1; qos = 0; retain = 0; topic = []; ident = 0; props = none; payload = [] })) 5)
    ∷ case none (0x31 ∷ 0x03 ∷ 0x00 ∷ 0x00 ∷ 0x00 ∷ []) (accepted (publish (record { dup = 0; qos = 0; retain = 1; topic = []; ident = 0; props = none; payload = [] })) 5)
    ∷ case none (0x34 ∷ 0x05 ∷ 0x00 ∷ 0x00 ∷ 0x01 ∷ 0x02 ∷ 0x00 ∷ []) (accepted (publish (record { dup = 0; qos = 2; retain = 0; topic = []; ident = 258; props = none; payload = [] })) 7)
    -- blocks: L cut off, too long, too large; a number that fills a block; an identifier of another place
    ∷ case none (0x30 ∷ 0x06 ∷ 0x00 ∷ 0x01 ∷ 0x61 ∷ 0x80 ∷ 0x80 ∷ 0x80 ∷ []) (refused 7 [] 8)
    ∷ case none (0x30 ∷ 0x07 ∷ 0x00 ∷ 0x01 ∷ 0x61 ∷ 0x80 ∷ 0x80 ∷ 0x80 ∷ 0x80 ∷ []) (refused 2 [] 9)
    ∷ case none (0x30 ∷ 0x05 ∷ 0x00 ∷ 0x01 ∷ 0x61 ∷ 0x05 ∷ 0x00 ∷ []) (refused 8 (5 ∷ []) 7)
    ∷ case none (0x30 ∷ 0x0A ∷ 0x00 ∷ 0x01 ∷ 0x61 ∷ 0x04 ∷ 0x0B ∷ 0x80 ∷ 0x80 ∷ 0x80 ∷ 0x01 ∷ 0x07 ∷ []) (refused 7 [] 12)
    ∷ case none (0x30 ∷ 0x0A ∷ 0x00 ∷ 0x01 ∷ 0x61 ∷ 0x05 ∷ 0x0B ∷ 0x80 ∷ 0x80 ∷ 0x80 ∷ 0x80 ∷ 0x07 ∷ []) (refused 2 [] 12)
    ∷ case none (0x30 ∷ 0x07 ∷ 0x00 ∷ 0x01 ∷ 0x61 ∷ 0x03 ∷ 0x1F ∷ 0x00 ∷ 0x00 ∷ []) (refused 10 (31 ∷ []) 9)
    -- all eight properties; one given twice; lists in order
    ∷ case none (0x3B ∷ 0x28 ∷ 0x00 ∷ 0x01 ∷ 0x61 ∷ 0x00 ∷ 0x07 ∷ 0x21 ∷ 0x01 ∷ 0x01 ∷ 0x02 ∷ 0x00 ∷ 0x00 ∷ 0x00 ∷ 0x05 ∷ 0x23 ∷ 0x00 ∷ 0x09 ∷ 0x08 ∷ 0x00 ∷ 0x01 ∷ 0x62 ∷ 0x09 ∷ 0x00 ∷ 0x01 ∷ 0xFF ∷ 0x26 ∷ 0x00 ∷ 0x01 ∷ 0x6B ∷ 0x00 ∷ 0x01 ∷ 0x76 ∷ 0x0B ∷ 0x80 ∷ 0x01 ∷ 0x03 ∷ 0x00 ∷ 0x02 ∷ 0xC3 ∷ 0xA9 ∷ 0x07 ∷ []) (accepted (publish (record { dup = 1; qos = 1; retain = 1; topic = 0x61 ∷ []; ident = 7; props = some (record { format = some (num 1); expiry = some (num 5); alias = some (num 9); response = some (str (0x62 ∷ [])); correlation = some (str (0xFF ∷ [])); user = duo (0x6B ∷ []) (0x76 ∷ []) ∷ []; subscriptions = num 128 ∷ []; content = some (str (0xC3 ∷ 0xA9 ∷ [])) }); payload = 0x07 ∷ [] })) 42)
    ∷ case none (0x30 ∷ 0x0B ∷ 0x00 ∷ 0x00 ∷ 0x08 ∷ 0x02 ∷ 0x01 ∷ 0x02 ∷ 0x03 ∷ 0x04 ∷ 0x23 ∷ 0x01 ∷ 0x02 ∷ []) (accepted (message [] (some (record { format = none; expiry = some (num 16909060); alias = some (num 258); response = none; correlation = none; user = []; subscriptions = []; content = none })) []) 13)
    ∷ case none (0x30 ∷ 0x18 ∷ 0x00 ∷ 0x01 ∷ 0x61 ∷ 0x14 ∷ 0x03 ∷ 0x00 ∷ 0x01 ∷ 0x61 ∷ 0x26 ∷ 0x00 ∷ 0x01 ∷ 0x61 ∷ 0x00 ∷ 0x01 ∷ 0x62 ∷ 0x03 ∷ 0x00 ∷ 0x01 ∷ 0x62 ∷ 0x26 ∷ 0x00 ∷ 0x00 ∷ 0x00 ∷ 0x00 ∷ []) (refused 22 (3 ∷ []) 26)
    -- 02, P9: a doubled property before its value is looked at, with another between, and behind an earlier fault; lists may repeat; 11 twice in a
    -- Subscribe; zero; U+0000
    ∷ case none (0x30 ∷ 0x0C ∷ 0x00 ∷ 0x00 ∷ 0x09 ∷ 0x01 ∷ 0x00 ∷ 0x02 ∷ 0x00 ∷ 0x00 ∷ 0x00 ∷ 0x00 ∷ 0x01 ∷ 0x00 ∷ []) (refused 22 (1 ∷ []) 14)
    ∷ case none (0x30 ∷ 0x0D ∷ 0x00 ∷ 0x00 ∷ 0x0A ∷ 0x26 ∷ 0x00 ∷ 0x00 ∷ 0x00 ∷ 0x00 ∷ 0x26 ∷ 0x00 ∷ 0x00 ∷ 0x00 ∷ 0x00 ∷ []) (accepted (message [] (some (record { format = none; expiry = none; alias = none; response = none; correlation = none; user = duo [] [] ∷ duo [] [] ∷ []; subscriptions = []; content = none })) []) 15)
    ∷ case none (0x30 ∷ 0x08 ∷ 0x00 ∷ 0x00 ∷ 0x05 ∷ 0x01 ∷ 0x00 ∷ 0x01 ∷ 0x00 ∷ 0xFF ∷ []) (refused 22 (1 ∷ []) 10)
    ∷ case none (0x30 ∷ 0x06 ∷ 0x00 ∷ 0x00 ∷ 0x03 ∷ 0x01 ∷ 0x00 ∷ 0x01 ∷ []) (refused 22 (1 ∷ []) 8)
    ∷ case none (0x30 ∷ 0x07 ∷ 0x00 ∷ 0x00 ∷ 0x04 ∷ 0x01 ∷ 0x00 ∷ 0x00 ∷ 0x01 ∷ []) (refused 10 (0 ∷ []) 9)
    ∷ case none (0x30 ∷ 0x05 ∷ 0x00 ∷ 0x00 ∷ 0x02 ∷ 0x0B ∷ 0x00 ∷ []) (refused 23 [] 7)
    ∷ case none (0x82 ∷ 0x0B ∷ 0x00 ∷ 0x01 ∷ 0x04 ∷ 0x0B ∷ 0x01 ∷ 0x0B ∷ 0x00 ∷ 0x00 ∷ 0x01 ∷ 0x61 ∷ 0x00 ∷ []) (refused 22 (11 ∷ []) 13)
    ∷ case none (0x82 ∷ 0x07 ∷ 0x00 ∷ 0x01 ∷ 0x00 ∷ 0x00 ∷ 0x01 ∷ 0x00 ∷ 0x00 ∷ []) (refused 9 [] 9)
    ∷ case none (0x30 ∷ 0x04 ∷ 0x00 ∷ 0x01 ∷ 0x00 ∷ 0x00 ∷ []) (accepted (message (0x00 ∷ []) none []) 6)
    -- Subscribe: identifier 0, both properties, every option; 9, 7, 11
    ∷ case none (0x82 ∷ 0x10 ∷ 0x00 ∷ 0x00 ∷ 0x09 ∷ 0x0B ∷ 0x05 ∷ 0x26 ∷ 0x00 ∷ 0x01 ∷ 0x6B ∷ 0x00 ∷ 0x01 ∷ 0x76 ∷ 0x00 ∷ 0x01 ∷ 0x61 ∷ 0xEE ∷ []) (accepted (subscribe (record { ident = 0; props = some (record { reason = none; ident = some (num 5); user = duo (0x6B ∷ []) (0x76 ∷ []) ∷ [] }); filters = record { path = 0x61 ∷ []; qos = 2; no_local = 1; preserve = 1; rule = 2 } ∷ [] })) 18)
    ∷ case none (0x82 ∷ 0x07 ∷ 0x00 ∷ 0x01 ∷ 0x00 ∷ 0x00 ∷ 0x01 ∷ 0x61 ∷ 0x03 ∷ []) (refused 11 (3 ∷ []) 9)
    ∷ case none (0x82 ∷ 0x07 ∷ 0x00 ∷ 0x01 ∷ 0x00 ∷ 0x00 ∷ 0x01 ∷ 0x61 ∷ 0x04 ∷ []) (accepted (subscribe (record { ident = 1; props = none; filters = record { path = 0x61 ∷ []; qos = 0; no_local = 1; preserve = 0; rule = 0 } ∷ [] })) 9)
    ∷ case none (0x82 ∷ 0x07 ∷ 0x00 ∷ 0x01 ∷ 0x00 ∷ 0x00 ∷ 0x01 ∷ 0x61 ∷ 0xC8 ∷ []) (accepted (subscribe (record { ident = 1; props = none; filters = record { path = 0x61 ∷ []; qos = 0; no_local = 0; preserve = 1; rule = 0 } ∷ [] })) 9)
    ∷ case none (0x82 ∷ 0x07 ∷ 0x00 ∷ 0x01 ∷ 0x00 ∷ 0x00 ∷ 0x01 ∷ 0x61 ∷ 0x07 ∷ []) (refused 11 (3 ∷ []) 9)
    ∷ case none (0x82 ∷ 0x07 ∷ 0x00 ∷ 0x01 ∷ 0x00 ∷ 0x00 ∷ 0x01 ∷ 0x61 ∷ 0x43 ∷ []) (refused 11 (3 ∷ []) 9)
    ∷ case none (0x82 ∷ 0x07 ∷ 0x00 ∷ 0x01 ∷ 0x00 ∷ 0x00 ∷ 0x01 ∷ 0x61 ∷ 0x70 ∷ []) (refused 14 (3 ∷ []) 9)
    ∷ case none (0x82 ∷ 0x07 ∷ 0x00 ∷ 0x01 ∷ 0x00 ∷ 0x00 ∷ 0x01 ∷ 0x61 ∷ 0xB0 ∷ []) (refused 14 (3 ∷ []) 9)
    ∷ case none (0x82 ∷ 0x07 ∷ 0x00 ∷ 0x01 ∷ 0x00 ∷ 0x00 ∷ 0x01 ∷ 0x61 ∷ 0xF3 ∷ []) (refused 14 (3 ∷ []) 9)
    ∷ case none (0x82 ∷ 0x06 ∷ 0x00 ∷ 0x01 ∷ 0x00 ∷ 0x00 ∷ 0x01 ∷ 0x61 ∷ []) (refused 7 [] 8)
    ∷ case none (0x82 ∷ 0x07 ∷ 0x00 ∷ 0x01 ∷ 0x00 ∷ 0x00 ∷ 0x01 ∷ 0xFF ∷ 0x00 ∷ []) (refused 9 [] 9)
    -- flags that are ignored, and identifier 0 of a PubAck
    ∷ case none (0x8F ∷ 0x07 ∷ 0x00 ∷ 0x01 ∷ 0x00 ∷ 0x00 ∷ 0x01 ∷ 0x61 ∷ 0x01 ∷ []) (accepted (subscribe (record { ident = 1; props = none; filters = record { path = 0x61 ∷ []; qos = 1; no_local = 0; preserve = 0; rule = 0 } ∷ [] })) 9)
    ∷ case none (0x4F ∷ 0x02 ∷ 0x00 ∷ 0x00 ∷ []) (accepted (ack 4 (record { ident = 0; reason = 0; props = none })) 4)
    -- PubAck: both properties; L = 0, in two bytes; 15 before the block, 10 before the bytes after it
    ∷ case none (0x40 ∷ 0x0F ∷ 0x00 ∷ 0x0A ∷ 0x99 ∷ 0x0B ∷ 0x1F ∷ 0x00 ∷ 0x01 ∷ 0x61 ∷ 0x26 ∷ 0x00 ∷ 0x01 ∷ 0x6B ∷ 0x00 ∷ 0x01 ∷ 0x76 ∷ []) (accepted (acked 0x99 (some (record { reason = some (str (0x61 ∷ [])); ident = none; user = duo (0x6B ∷ []) (0x76 ∷ []) ∷ [] }))) 17)
    ∷ case none (0x40 ∷ 0x05 ∷ 0x00 ∷ 0x0A ∷ 0x10 ∷ 0x80 ∷ 0x00 ∷ []) (refused 2 [] 7)
    ∷ case none (0x40 ∷ 0x01 ∷ 0x00 ∷ []) (refused 7 [] 3)
    ∷ case none (0x40 ∷ 0x03 ∷ 0x00 ∷ 0x0A ∷ 0x11 ∷ []) (refused 15 (0x11 ∷ []) 5)
    ∷ case none (0x40 ∷ 0x05 ∷ 0x00 ∷ 0x01 ∷ 0x01 ∷ 0x01 ∷ 0xFF ∷ []) (refused 15 (1 ∷ []) 7)
    ∷ case none (0x40 ∷ 0x05 ∷ 0x00 ∷ 0x0A ∷ 0x00 ∷ 0x00 ∷ 0x00 ∷ []) (refused 7 [] 7)
    ∷ case none (0x40 ∷ 0x06 ∷ 0x00 ∷ 0x01 ∷ 0x00 ∷ 0x01 ∷ 0xFF ∷ 0x00 ∷ []) (refused 10 (255 ∷ []) 8)
    ∷ []

-- 02, P1: flags are ignored, identifier 0 passes; the reasons of each kind; 13 and 15
abbrev pub six : List Case
six =
    -- the other three publish acknowledgements: R = 2, 3 and from 4; PubRec has PubAck's reasons, PubRel and PubComp have 00 and 92
    case none (0x5F ∷ 0x02 ∷ 0x00 ∷ 0x00 ∷ []) (accepted (ack 5 (record { ident = 0; reason = 0; props = none })) 4)
    ∷ case none (0x50 ∷ 0x03 ∷ 0x00 ∷ 0x0A ∷ 0x99 ∷ []) (accepted (ack 5 (record { ident = 10; reason = 0x99; props = none })) 5)
    ∷ case none (0x50 ∷ 0x03 ∷ 0x00 ∷ 0x0A ∷ 0x92 ∷ []) (refused 15 (0x92 ∷ []) 5)
    ∷ case none (0x70 ∷ 0x0A ∷ 0x00 ∷ 0x01 ∷ 0x00 ∷ 0x06 ∷ 0x1F ∷ 0x00 ∷ 0x00 ∷ 0x1F ∷ 0x00 ∷ 0x00 ∷ []) (refused 22 (31 ∷ []) 12)
    ∷ case none (0x60 ∷ 0x08 ∷ 0x00 ∷ 0x0A ∷ 0x92 ∷ 0x04 ∷ 0x1F ∷ 0x00 ∷ 0x01 ∷ 0x61 ∷ []) (accepted (ack 6 (record { ident = 10; reason = 0x92; props = some (record { reason = some (str (0x61 ∷ [])); ident = none; user = [] }) })) 10)
    ∷ case none (0x62 ∷ 0x03 ∷ 0x00 ∷ 0x0A ∷ 0x10 ∷ []) (refused 15 (0x10 ∷ []) 5)
    ∷ case none (0x70 ∷ 0x03 ∷ 0x00 ∷ 0x0A ∷ 0x92 ∷ []) (accepted (ack 7 (record { ident = 10; reason = 0x92; props = none })) 5)
    ∷ case none (0x70 ∷ 0x05 ∷ 0x00 ∷ 0x0A ∷ 0x00 ∷ 0x00 ∷ 0x00 ∷ []) (refused 7 [] 7)
    -- SubAck and UnsubAck: a block always, then one reason or more; the block's fault before the reasons'
    ∷ case none (0x9F ∷ 0x05 ∷ 0x00 ∷ 0x00 ∷ 0x00 ∷ 0x02 ∷ 0xA2 ∷ []) (accepted (reply 9 (record { ident = 0; props = none; reasons = 0x02 ∷ 0xA2 ∷ [] })) 7)
    ∷ case none (0x90 ∷ 0x02 ∷ 0x00 ∷ 0x01 ∷ []) (refused 7 [] 4)
    ∷ case none (0x90 ∷ 0x03 ∷ 0x00 ∷ 0x01 ∷ 0x00 ∷ []) (refused 13 [] 5)
    ∷ case none (0x90 ∷ 0x05 ∷ 0x00 ∷ 0x01 ∷ 0x00 ∷ 0x00 ∷ 0x11 ∷ []) (refused 15 (0x11 ∷ []) 7)
    ∷ case none (0x90 ∷ 0x06 ∷ 0x00 ∷ 0x01 ∷ 0x02 ∷ 0x0B ∷ 0x01 ∷ 0x03 ∷ []) (refused 10 (11 ∷ []) 8)
    ∷ case none (0x90 ∷ 0x0A ∷ 0x00 ∷ 0x01 ∷ 0x06 ∷ 0x1F ∷ 0x00 ∷ 0x00 ∷ 0x1F ∷ 0x00 ∷ 0x00 ∷ 0x00 ∷ []) (refused 22 (31 ∷ []) 12)
    ∷ case none (0x90 ∷ 0x00 ∷ []) (refused 5 [] 2)
    ∷ case none (0xB0 ∷ 0x0A ∷ 0x00 ∷ 0x01 ∷ 0x05 ∷ 0x26 ∷ 0x00 ∷ 0x00 ∷ 0x00 ∷ 0x00 ∷ 0x11 ∷ 0x00 ∷ []) (accepted (reply 11 (record { ident = 1; props = some (record { reason = none; ident = none; user = duo [] [] ∷ [] }); reasons = 0x11 ∷ 0x00 ∷ [] })) 12)
    ∷ case none (0xB0 ∷ 0x04 ∷ 0x00 ∷ 0x01 ∷ 0x00 ∷ 0x01 ∷ []) (refused 15 (1 ∷ []) 6)
    -- Unsubscribe: 38 alone, topics are texts
    ∷ case none (0xA0 ∷ 0x08 ∷ 0x00 ∷ 0x00 ∷ 0x00 ∷ 0x00 ∷ 0x01 ∷ 0x61 ∷ 0x00 ∷ 0x00 ∷ []) (accepted (unsubscribe (record { ident = 0; props = none; topics = (0x61 ∷ []) ∷ [] ∷ [] })) 10)
    ∷ case none (0xA2 ∷ 0x03 ∷ 0x00 ∷ 0x01 ∷ 0x00 ∷ []) (refused 13 [] 5)
    ∷ case none (0xA2 ∷ 0x05 ∷ 0x00 ∷ 0x01 ∷ 0x02 ∷ 0x0B ∷ 0x01 ∷ []) (refused 10 (11 ∷ []) 7)
    ∷ case none (0xA2 ∷ 0x06 ∷ 0x00 ∷ 0x01 ∷ 0x00 ∷ 0x00 ∷ 0x01 ∷ 0xFF ∷ []) (refused 9 [] 8)
    ∷ case none (0xA2 ∷ 0x06 ∷ 0x00 ∷ 0x01 ∷ 0x00 ∷ 0x00 ∷ 0x01 ∷ 0x00 ∷ []) (refused 9 [] 8)
    ∷ case none (0xA2 ∷ 0x04 ∷ 0x00 ∷ 0x01 ∷ 0x00 ∷ 0x00 ∷ []) (refused 7 [] 6)
    ∷ []

-- ---- places and items

abbrev span : ℕ → ℕ → Span
span a n = record { start = a; len = n }

-- two filters, a and b/c
abbrev two : List ℕ
two = 0x82 ∷ 0x0D ∷ 0x00 ∷ 0x01 ∷ 0x00 ∷ 0x00 ∷ 0x01 ∷ 0x61 ∷ 0x01 ∷ 0x00 ∷ 0x03 ∷ 0x62 ∷ 0x2F ∷ 0x63 ∷ 0x02 ∷ []

-- a reason string and a user property, behind a byte that is not the frame's
abbrev acks : List ℕ
acks = 0x40 ∷ 0x0F ∷ 0x00 ∷ 0x0A ∷ 0x99 ∷ 0x0B ∷ 0x1F ∷ 0x00 ∷ 0x01 ∷ 0x61 ∷ 0x26 ∷ 0x00 ∷ 0x01 ∷ 0x6B ∷ 0x00 ∷ 0x01 ∷ 0x76 ∷ 0xFF ∷ []

-- a Publish whose topic, texts and payload are all empty
abbrev hollow : List ℕ
hollow = 0x30 ∷ 0x11 ∷ 0x00 ∷ 0x00 ∷ 0x0E ∷ 0x08 ∷ 0x00 ∷ 0x00 ∷ 0x09 ∷ 0x00 ∷ 0x00 ∷ 0x26 ∷ 0x00 ∷ 0x00 ∷ 0x00 ∷ 0x00 ∷ 0x03 ∷ 0x00 ∷ 0x00 ∷ []

-- where the strings, blocks and entries of ten frames stand
abbrev placed : List (List ℕ × Answer Placed)
placed = (
  three,
  accepted (publish (record {
    dup = 0;
    qos = 0;
    retain = 0;
    topic = span 4 1;
    ident = 0;
    props = some (record {
      format = none;
      expiry = none;
      alias = none;
      response = none;
      correlation = none;
      user = span 6 6;
      subscriptions = span 6 6;
      content = none;
    });
    payload = span 12 1;
  })) 13,
)
    ∷ (two, accepted (subscribe (record { ident = 1; props = none; filters = span 5 10 })) 15)
    ∷ (0x90 ∷ 0x05 ∷ 0x00 ∷ 0x01 ∷ 0x00 ∷ 0x02 ∷ 0xA2 ∷ [], accepted (reply 9 (record { ident = 1; props = none; reasons = span 5 2 })) 7)
    ∷ (0xA2 ∷ 0x06 ∷ 0x00 ∷ 0x01 ∷ 0x00 ∷ 0x00 ∷ 0x01 ∷ 0x61 ∷ [], accepted (unsubscribe (record { ident = 1; props = none; topics = span 5 3 })) 8)
    ∷ (acks, accepted (ack 4 (record { ident = 10; reason = 0x99; props = some (record { reason = some (str (span 9 1)); ident = none; user = span 6 11 }) })) 17)
    -- what is empty stands somewhere too: topic and payload; the texts of a block; the one text of a run
    ∷ (0x30 ∷ 0x03 ∷ 0x00 ∷ 0x00 ∷ 0x00 ∷ [], accepted (publish (record { dup = 0; qos = 0; retain = 0; topic = span 4 0; ident = 0; props = none; payload = span 5 0 })) 5)
    ∷ (
      hollow,
      accepted (publish (record {
        dup = 0;
        qos = 0;
        retain = 0;
        topic = span 4 0;
        ident = 0;
        props = some (record {
          format = none;
          expiry = none;
          alias = none;
          response = some (str (span 8 0));
          correlation = some (str (span 11 0));
          user = span 5 14;
          subscriptions = span 5 14;
          content = some (str (span 19 0));
        });
        payload = span 19 0;
      })) 19,
    )
    ∷ (0x40 ∷ 0x07 ∷ 0x00 ∷ 0x0A ∷ 0x00 ∷ 0x03 ∷ 0x1F ∷ 0x00 ∷ 0x00 ∷ [], accepted (ack 4 (record { ident = 10; reason = 0; props = some (record { reason = some (str (span 9 0)); ident = none; user = span 6 3 }) })) 9)
    ∷ (0x82 ∷ 0x06 ∷ 0x00 ∷ 0x01 ∷ 0x00 ∷ 0x00 ∷ 0x00 ∷ 0x00 ∷ [], accepted (subscribe (record { ident = 1; props = none; filters = span 5 3 })) 8)
    ∷ (0xA2 ∷ 0x05 ∷ 0x00 ∷ 0x01 ∷ 0x00 ∷ 0x00 ∷ 0x00 ∷ [], accepted (unsubscribe (record { ident = 1; props = none; topics = span 5 2 })) 7)
    ∷ []

-- a user property behind a property that stands twice
abbrev doubled : List ℕ
doubled = 0x01 ∷ 0x00 ∷ 0x01 ∷ 0x00 ∷ 0x26 ∷ 0x00 ∷ 0x00 ∷ 0x00 ∷ 0x00 ∷ []

-- items: the third identifier, none after it; no user property; no item of a place that cuts the block, or lies outside; a pair of an acknowledgement;
-- none of a block with a doubled property
abbrev items : List (Fit (Val Span))
items =
    subscription_at as_places three (span 6 6) 2
    ∷ subscription_at as_places three (span 6 6) 3
    ∷ user_at as_places three (span 6 6) publish_row 0
    ∷ subscription_at as_places three (span 6 5) 0
    ∷ subscription_at as_places three (span 6 9) 0
    ∷ user_at as_places acks (span 6 11) ack_row 0
    ∷ user_at as_places acks (span 6 11) subscribe_row 0
    ∷ user_at as_places doubled (span 0 9) publish_row 0
    ∷ user_at as_places doubled (span 2 7) publish_row 0
    ∷ []

-- ---- the statement

abbrev Right : Type 0
Right =
    (map (λ (c : Case). read_of c.limit c.sent) (bench ++ more ++ six) ≡ map (λ (c : Case). c.answer) (bench ++ more ++ six))
    × (map (λ (c : List ℕ × Answer Placed). read_placed_of none c.0) placed ≡ map (λ (c : List ℕ × Answer Placed). c.1) placed)
    × (items ≡ got (num 3) ∷ bad (nr 21 []) ∷ bad (nr 21 []) ∷ bad (nr 21 []) ∷ bad (nr 21 []) ∷ got (duo (span 13 1) (span 16 1)) ∷ bad (nr 21 []) ∷ bad (nr 21 []) ∷ got (duo (span 7 0) (span 9 0)) ∷ [])
    × (filter_at as_places (0x00 ∷ 0x00 ∷ 0x00 ∷ []) (span 0 3) 0 ≡ got (record { path = span 2 0; qos = 0; no_local = 0; preserve = 0; rule = 0 }))
    × (topic_at as_places (0x00 ∷ 0x00 ∷ []) (span 0 2) 0 ≡ got (span 2 0))
    × (filter_at as_places two (span 5 10) 1 ≡ got (record { path = span 11 3; qos = 2; no_local = 0; preserve = 0; rule = 0 }))
    × (reason_at (0x02 ∷ 0xA2 ∷ []) (span 0 2) sub_ack_reasons 1 ≡ got 0xA2)
    × (reason_at (0x02 ∷ 0xA2 ∷ []) (span 0 2) unsub_ack_reasons 0 ≡ bad (nr 21 []))
    × (topic_at as_places (0x00 ∷ 0x01 ∷ 0x61 ∷ []) (span 0 3) 0 ≡ got (span 2 1))

pub right : Right
unfolding rows publish_row subscribe_row ack_row unsubscribe_row reasons release_reasons sub_ack_reasons unsub_ack_reasons kinds last_of all_of publish_props props_of none_of never_of map_of only_of only_by_of head_of then_of sized_of is_fit map_fit hand_fit only_fit then_fit exact_fit run_fit chain_fit byte_of follow_of rest_of char_of is_text big_of group_of groups_of num_of string_fit bytes_of text_of value_of value_at property_of once_of properties_fit block_of ack_block_fit ack_rest_fit ident_of reasons_fit filter_of filters_fit topics_fit message_fit fields_fit layout_fit body_fit within over frame_of body_answer whole_answer frame_answer read_as again values_at user_at subscription_at filter_at reason_at topic_at
right = (refl, refl, refl, refl, refl, refl, refl, refl, refl)
