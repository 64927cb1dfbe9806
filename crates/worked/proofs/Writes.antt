-- Worked values of 01: one list of writes, one of sizes, one of outputs, each one statement. Assumes nothing.
use mathlib.Core.Path.{◌≡◌, refl}
use mathlib.Core.Bool.{Bool, true, false}
use mathlib.Core.Option.{Option, none, some}
use mathlib.Core.List.{List, [], ◌∷◌, map}
use Prim.Native.Nat.{ℕ, ◌+◌, ◌<◌}
use native.Mathlib.Omega.{arith}
use lib.ListN.{replicate, length-replicate}
use Rattle.grammar.specs.Text.{rows}
use Rattle.grammar.specs.Tables.{publish_row, subscribe_row, ack_row, unsubscribe_row, reasons, release_reasons, sub_ack_reasons, unsub_ack_reasons, kinds, reasons_of, firsts, first_of}
use Rattle.grammar.specs.Octets.{Each, nil, ◌&◌}
use Rattle.reading.specs.Refusal.{nr}
use Rattle.reading.specs.Reader.{Fit, got, bad, none_of, never_of, map_of, only_of, then_of, run_fit, chain_fit}
use Rattle.reading.specs.Read.{byte_of, follow_of, rest_of, char_of, is_text}
use Rattle.writing.specs.Handed.{Lent, Run, PublishHanded, Handed, publish, ack, subscribe, reply, unsubscribe, ping, publish_given, subscribe_given, ack_given, unsubscribe_given, filters, block_belongs, filters_belong, belongs}
use Rattle.writing.specs.Spell.{wide, spell_step, spell, short, string, numeral, value, props_bytes, counted, block}
use Rattle.writing.specs.Size.{most, props_size, rest_is, size_is}
use Rattle.writing.specs.Order.{judge, raw, props_fields, fields_of, permit}
use Rattle.writing.specs.Write.{first_byte, body_bytes, frame_bytes, size_of, write_of, out_of}
use Rattle.writing.specs.Refuse.{Writable, Refuses}
use Rattle.writing.proofs.Belong.{belongs_when}
use Rattle.writing.proofs.Verdict.{refused_when}
use Rattle.writing.specs.Refuse as r

-- 01, "Lengths": 127 is 7F, 128 is 80 01, 16,383 is FF 7F, 16,384 is 80 80 01, 2,097,152 is 80 80 80 01; and the ends of each
pub edges_right : map short (0 ∷ 127 ∷ 128 ∷ 16383 ∷ 16384 ∷ 2097151 ∷ 2097152 ∷ 268435455 ∷ [])
    ≡ (0x00 ∷ []) ∷ (0x7F ∷ []) ∷ (0x80 ∷ 0x01 ∷ []) ∷ (0xFF ∷ 0x7F ∷ []) ∷ (0x80 ∷ 0x80 ∷ 0x01 ∷ []) ∷ (0xFF ∷ 0xFF ∷ 0x7F ∷ []) ∷ (0x80 ∷ 0x80 ∷ 0x80 ∷ 0x01 ∷ []) ∷ (0xFF ∷ 0xFF ∷ 0xFF ∷ 0x7F ∷ []) ∷ []
unfolding short spell spell_step
edges_right = refl

-- ---- records

abbrev no : Lent
no = record { on = false; bytes = [] }

abbrev yes : List ℕ → Lent
yes s = record { on = true; bytes = s }

abbrev run : List ℕ → List ℕ → Run
run b ls = record { bytes = b; lengths = ls }

abbrev a : List ℕ
a = 0x61 ∷ []

-- a Publish with topic a/b and payload hi, by its quality of service, identifier and properties
abbrev message : ℕ → ℕ → Bool → Lent → Run → List ℕ → Handed
message q i b t u ids = publish (record {
  dup = 0;
  qos = q;
  retain = 0;
  topic = 0x61 ∷ 0x2F ∷ 0x62 ∷ [];
  ident = i;
  block = b;
  format = none;
  expiry = none;
  alias = none;
  response = t;
  correlation = no;
  user = u;
  subscriptions = ids;
  content = no;
  payload = 0x68 ∷ 0x69 ∷ [];
})

-- every property of Publish
abbrev laden : Handed
laden = publish (record {
  dup = 1;
  qos = 2;
  retain = 1;
  topic = a;
  ident = 258;
  block = true;
  format = some 1;
  expiry = some 3;
  alias = some 4;
  response = yes (0x62 ∷ []);
  correlation = yes (0xFF ∷ []);
  user = run (0x6B ∷ 0x76 ∷ []) (1 ∷ 1 ∷ []);
  subscriptions = 5 ∷ 128 ∷ [];
  content = yes (0x63 ∷ []);
  payload = 9 ∷ [];
})

-- topic and payload alone
abbrev plain : List ℕ → List ℕ → PublishHanded
plain t b = record {
  dup = 0;
  qos = 0;
  retain = 0;
  topic = t;
  ident = 0;
  block = false;
  format = none;
  expiry = none;
  alias = none;
  response = no;
  correlation = no;
  user = run [] [];
  subscriptions = [];
  content = no;
  payload = b;
}

abbrev ab : Handed
ab = publish (plain (0x61 ∷ 0x2F ∷ 0x62 ∷ []) (0x68 ∷ 0x69 ∷ []))

abbrev long : Handed
long = publish (plain (replicate 65536 0x61) [])

abbrev wish : Option ℕ → Run → List ℕ → Handed
wish id fs os = subscribe (record { ident = 1; block = true; subscription = id; user = run [] []; filters = fs; options = os })

abbrev acked : ℕ → Bool → Lent → Run → Handed
acked c b t u = ack 4 (record { ident = 10; reason = c; block = b; text = t; user = u })

pub record Case : Type 0 where
  pub limit : Option ℕ
  pub room : ℕ
  pub handed : Handed
  pub answer : Fit (List ℕ)

abbrev case : Option ℕ → ℕ → Handed → Fit (List ℕ) → Case
case l m h r = record { limit = l; room = m; handed = h; answer = r }

abbrev no_of : ℕ → Fit (List ℕ)
no_of k = bad (nr k [])

abbrev pub bench : List Case
bench =
    -- the a/b record
    case (some 9) 100 ab (bad (nr 16 (10 ∷ 9 ∷ [])))
    ∷ case (some 10) 100 ab (got (0x30 ∷ 0x08 ∷ 0x00 ∷ 0x03 ∷ 0x61 ∷ 0x2F ∷ 0x62 ∷ 0x00 ∷ 0x68 ∷ 0x69 ∷ []))
    ∷ case none 9 ab (bad (nr 19 (10 ∷ [])))
    -- an identifier at quality of service 0 is not written, nor is a set that has nothing in it
    ∷ case none 10 (message 0 7 true no (run [] []) []) (got (0x30 ∷ 0x08 ∷ 0x00 ∷ 0x03 ∷ 0x61 ∷ 0x2F ∷ 0x62 ∷ 0x00 ∷ 0x68 ∷ 0x69 ∷ []))
    -- the order of the table
    ∷ case none 100 laden (got (0x3D ∷ 0x29 ∷ 0x00 ∷ 0x01 ∷ 0x61 ∷ 0x01 ∷ 0x02 ∷ 0x22 ∷
    0x01 ∷ 0x01 ∷ 0x02 ∷ 0x00 ∷ 0x00 ∷ 0x00 ∷ 0x03 ∷ 0x23 ∷ 0x00 ∷ 0x04 ∷ 0x08 ∷ 0x00 ∷ 0x01 ∷ 0x62 ∷ 0x09 ∷ 0x00 ∷ 0x01 ∷ 0xFF ∷
    0x26 ∷ 0x00 ∷ 0x01 ∷ 0x6B ∷ 0x00 ∷ 0x01 ∷ 0x76 ∷ 0x0B ∷ 0x05 ∷ 0x0B ∷ 0x80 ∷ 0x01 ∷ 0x03 ∷ 0x00 ∷ 0x01 ∷ 0x63 ∷ 0x09 ∷ []))
    -- 20: a value for an absent block, bytes for an absent value, lengths that do not add up, and an odd number of them; before 9
    ∷ case none 100 (message 0 0 false (yes []) (run [] []) []) (no_of 20)
    ∷ case none 100 (message 0 0 true (record { on = false; bytes = a }) (run [] []) []) (no_of 20)
    ∷ case none 100 (message 0 0 true (yes (0xFF ∷ [])) (run a (1 ∷ 1 ∷ [])) []) (no_of 20)
    ∷ case none 100 (message 0 0 true no (run a (1 ∷ [])) []) (no_of 20)
    ∷ case none 100 (message 0 0 false no (run [] []) (1 ∷ [])) (no_of 20)
    -- 18 before 16; and before 9 of the same string
    ∷ case (some 0) 0 long (bad (nr 18 (65536 ∷ [])))
    ∷ case none 0 (message 0 0 true (yes (replicate 65536 0xFF)) (run [] []) []) (bad (nr 18 (65536 ∷ [])))
    -- 9 before 16, and 16 before 12: its size leaves an identifier 0 out
    ∷ case (some 0) 0 (message 1 0 true (yes (0xFF ∷ [])) (run [] []) []) (no_of 9)
    ∷ case (some 9) 0 (message 1 0 true no (run [] []) []) (bad (nr 16 (10 ∷ 9 ∷ [])))
    -- 12 before 17, 17 before 19
    ∷ case none 0 (message 1 0 true no (run [] []) (268435456 ∷ [])) (no_of 12)
    ∷ case none 0 (message 1 1 true no (run [] []) (1 ∷ 268435456 ∷ [])) (no_of 17)
    ∷ case (some 0) 0 (message 0 0 true no (run [] []) (268435456 ∷ [])) (bad (nr 16 (15 ∷ 0 ∷ [])))
    -- 02, P9: 23 for an identifier 0, where 17 for identifiers stands: in order, behind 16 and 12, before 13 and 19; U+0000 in a text is 9, in a topic it stands
    ∷ case none 0 (message 0 0 true no (run [] []) (0 ∷ 268435456 ∷ [])) (no_of 23)
    ∷ case none 0 (message 0 0 true no (run [] []) (1 ∷ 268435456 ∷ 0 ∷ [])) (no_of 17)
    ∷ case (some 0) 0 (message 0 0 true no (run [] []) (0 ∷ [])) (bad (nr 16 (12 ∷ 0 ∷ [])))
    ∷ case none 0 (message 1 0 true no (run [] []) (0 ∷ [])) (no_of 12)
    ∷ case none 0 (wish (some 0) (run [] []) []) (no_of 23)
    ∷ case none 0 (message 0 0 true (yes (0x61 ∷ 0x00 ∷ [])) (run [] []) []) (no_of 9)
    ∷ case none 6 (publish (plain (0x00 ∷ []) [])) (got (0x30 ∷ 0x04 ∷ 0x00 ∷ 0x01 ∷ 0x00 ∷ 0x00 ∷ []))
    -- a filter: 9, then 14, then 11, before the next one; 17 before 13, 13 before 19
    ∷ case none 100 (wish none (run a (1 ∷ [])) (0xC1 ∷ [])) (got (0x82 ∷ 0x07 ∷ 0x00 ∷ 0x01 ∷ 0x00 ∷ 0x00 ∷ 0x01 ∷ 0x61 ∷ 0x01 ∷ []))
    ∷ case none 100 (wish none (run a (1 ∷ [])) (0x33 ∷ [])) (bad (nr 14 (3 ∷ [])))
    ∷ case none 100 (wish none (run a (1 ∷ [])) (0x03 ∷ [])) (bad (nr 11 (3 ∷ [])))
    ∷ case none 100 (wish none (run (0xFF ∷ []) (1 ∷ [])) (0x33 ∷ [])) (no_of 9)
    ∷ case none 100 (wish none (run (0x61 ∷ 0xFF ∷ []) (1 ∷ 1 ∷ [])) (0x03 ∷ 0x33 ∷ [])) (bad (nr 11 (3 ∷ [])))
    ∷ case none 100 (wish none (run a (1 ∷ [])) []) (no_of 20)
    ∷ case none 0 (wish (some 268435456) (run [] []) []) (no_of 17)
    ∷ case none 0 (wish (some 1) (run [] []) []) (no_of 13)
    -- PubAck: a plain success has four bytes, one with an empty set six
    ∷ case none 4 (acked 0 false no (run [] [])) (got (0x40 ∷ 0x02 ∷ 0x00 ∷ 0x0A ∷ []))
    ∷ case none 6 (acked 0 true no (run [] [])) (got (0x40 ∷ 0x04 ∷ 0x00 ∷ 0x0A ∷ 0x00 ∷ 0x00 ∷ []))
    ∷ case none 6 (acked 0x10 false no (run [] [])) (got (0x40 ∷ 0x04 ∷ 0x00 ∷ 0x0A ∷ 0x10 ∷ 0x00 ∷ []))
    ∷ case none 20 (acked 0 true (yes a) (run [] [])) (got (0x40 ∷ 0x08 ∷ 0x00 ∷ 0x0A ∷ 0x00 ∷ 0x04 ∷ 0x1F ∷ 0x00 ∷ 0x01 ∷ 0x61 ∷ []))
    -- identifier 0 of a Subscribe and of a PubAck
    ∷ case none 9 (subscribe (record { ident = 0; block = false; subscription = none; user = run [] []; filters = run a (1 ∷ []); options = 1 ∷ [] })) (got (0x82 ∷ 0x07 ∷ 0x00 ∷ 0x00 ∷ 0x00 ∷ 0x00 ∷ 0x01 ∷ 0x61 ∷ 0x01 ∷ []))
    ∷ case none 4 (ack 4 (record { ident = 0; reason = 0; block = false; text = no; user = run [] [] })) (got (0x40 ∷ 0x02 ∷ 0x00 ∷ 0x00 ∷ []))
    -- 02, P1: 15 before the text of the block; four bytes for a plain success; first bytes; 31 before 38
    ∷ case none 20 (acked 0x11 true (yes (0xFF ∷ [])) (run [] [])) (bad (nr 15 (0x11 ∷ [])))
    ∷ case none 4 (ack 6 (record { ident = 10; reason = 0; block = false; text = no; user = run [] [] })) (got (0x62 ∷ 0x02 ∷ 0x00 ∷ 0x0A ∷ []))
    ∷ case none 6 (ack 7 (record { ident = 10; reason = 0x92; block = false; text = no; user = run [] [] })) (got (0x70 ∷ 0x04 ∷ 0x00 ∷ 0x0A ∷ 0x92 ∷ 0x00 ∷ []))
    ∷ case none 6 (ack 5 (record { ident = 10; reason = 0x92; block = false; text = no; user = run [] [] })) (bad (nr 15 (0x92 ∷ [])))
    ∷ case none 16 (reply 9 (record { ident = 0; block = true; text = yes a; user = run [] (0 ∷ 0 ∷ []); reasons = 0x00 ∷ 0xA2 ∷ [] })) (got (0x90 ∷ 0x0E ∷ 0x00 ∷ 0x00 ∷ 0x09 ∷ 0x1F ∷ 0x00 ∷ 0x01 ∷ 0x61 ∷ 0x26 ∷ 0x00 ∷ 0x00 ∷ 0x00 ∷ 0x00 ∷ 0x00 ∷ 0xA2 ∷ []))
    ∷ case none 0 (reply 11 (record { ident = 0; block = true; text = yes (0xFF ∷ []); user = run [] []; reasons = 0x01 ∷ [] })) (bad (nr 9 []))
    ∷ case (some 0) 0 (reply 11 (record { ident = 0; block = false; text = no; user = run [] []; reasons = 0x11 ∷ 0x01 ∷ [] })) (bad (nr 15 (1 ∷ [])))
    ∷ case none 0 (reply 11 (record { ident = 0; block = false; text = no; user = run [] []; reasons = [] })) (bad (nr 13 []))
    ∷ case none 9 (unsubscribe (record { ident = 1; block = false; user = run [] []; topics = run a (1 ∷ []) })) (got (0xA2 ∷ 0x06 ∷ 0x00 ∷ 0x01 ∷ 0x00 ∷ 0x00 ∷ 0x01 ∷ 0x61 ∷ []))
    ∷ case none 9 (unsubscribe (record { ident = 1; block = false; user = run [] []; topics = run a (2 ∷ []) })) (bad (nr 20 []))
    ∷ case none 0 (unsubscribe (record { ident = 1; block = false; user = run [] []; topics = run [] [] })) (bad (nr 13 []))
    -- pings
    ∷ case none 2 (ping 12) (got (0xC0 ∷ 0x00 ∷ []))
    ∷ case none 2 (ping 13) (got (0xD0 ∷ 0x00 ∷ []))
    ∷ case (some 1) 0 (ping 12) (bad (nr 16 (2 ∷ 1 ∷ [])))
    ∷ case none 1 (ping 12) (bad (nr 19 (2 ∷ [])))
    ∷ []

pub bench_right : map (λ (c : Case). write_of c.limit c.room c.handed) bench ≡ map (λ (c : Case). c.answer) bench
unfolding rows publish_row subscribe_row ack_row unsubscribe_row reasons release_reasons sub_ack_reasons unsub_ack_reasons kinds reasons_of none_of never_of map_of only_of then_of run_fit chain_fit byte_of follow_of rest_of char_of is_text spell spell_step publish_given subscribe_given ack_given unsubscribe_given filters block_belongs filters_belong belongs wide short string numeral value props_bytes counted block props_size rest_is size_is judge props_fields fields_of permit firsts first_of first_byte body_bytes frame_bytes write_of
bench_right = refl

-- ---- sizes, asked alone: no 18, 9, 14, 11, 12, 13, nor 17 for an identifier; 20 for what does not belong together

abbrev pub sizes : List (Handed × Fit ℕ)
sizes =
    (ab, got 10)
    ∷ (laden, got 43)
    ∷ (long, got 65543)
    ∷ (message 1 0 true (yes (0xFF ∷ [])) (run [] []) [], got 14)
    ∷ (message 1 1 true no (run [] []) (1 ∷ 268435456 ∷ []), got 19)
    ∷ (wish none (run a (1 ∷ [])) (0x33 ∷ []), got 9)
    ∷ (wish none (run [] []) [], got 5)
    ∷ (wish none (run a (1 ∷ [])) [], bad (nr 20 []))
    ∷ (acked 0 false no (run [] []), got 4)
    ∷ (acked 0 true no (run [] []), got 6)
    ∷ (acked 0x10 false no (run [] []), got 6)
    ∷ (reply 9 (record { ident = 0; block = false; text = no; user = run [] []; reasons = 0x07 ∷ [] }), got 6)
    ∷ (unsubscribe (record { ident = 0; block = false; user = run [] []; topics = run [] [] }), got 5)
    ∷ (ping 12, got 2)
    ∷ []

pub sizes_right : map (λ (z : Handed × Fit ℕ). size_of z.0) sizes ≡ map (λ (z : Handed × Fit ℕ). z.1) sizes
unfolding publish_row subscribe_row ack_row unsubscribe_row publish_given subscribe_given ack_given unsubscribe_given filters block_belongs filters_belong belongs props_size rest_is size_is size_of
sizes_right = refl

-- ---- outputs: the first size bytes are set and the rest is kept; a refused write leaves it as it stood

pub out_right : map (λ (z : List ℕ × Handed). out_of none z.0 z.1) ((1 ∷ 2 ∷ 3 ∷ [], ping 13) ∷ (1 ∷ [], ping 13) ∷ (7 ∷ 7 ∷ 7 ∷ 7 ∷ 7 ∷ [], acked 0 false no (run [] [])) ∷ [])
    ≡ (0xD0 ∷ 0x00 ∷ 3 ∷ []) ∷ (1 ∷ []) ∷ (0x40 ∷ 0x02 ∷ 0x00 ∷ 0x0A ∷ 7 ∷ []) ∷ []
unfolding ack_row reasons_of kinds reasons ack_given block_belongs belongs spell spell_step wide short counted props_size rest_is size_is judge props_fields fields_of permit firsts first_of first_byte body_bytes frame_bytes write_of out_of
out_right = refl

-- ---- 17 for R: a payload too long to be counted here one by one

abbrev lengthy : ℕ → PublishHanded
lengthy n = plain a (replicate n 0)

lengthy_belongs : (n : ℕ) → belongs (publish (lengthy n)) ≡ true
unfolding belongs block_belongs publish_row publish_given
lengthy_belongs n = refl

lengthy_sound : (n : ℕ) → Each Writable (fields_of (publish (lengthy n)))
unfolding fields_of props_fields publish_row publish_given
lengthy_sound n = topic & nil
  where
    topic : Writable (raw a)
    topic = omega arith

lengthy_rest : (n : ℕ) → rest_is (publish (lengthy n)) ≡ 4 + n
unfolding rest_is props_size publish_row publish_given
lengthy_rest n = omega (arith, length-replicate {A = ℕ} n 0)

pub lengthy_refused : (limit : Option ℕ) (room n : ℕ) → most < 4 + n → write_of limit room (publish (lengthy n)) ≡ bad (nr 17 [])
lengthy_refused limit room n l =
    (refused_when limit room (publish (lengthy n)) (nr 17 [])).1
    (r.Refuses.too_long ((belongs_when (publish (lengthy n))).0 (lengthy_belongs n)) (lengthy_sound n) (omega (arith, lengthy_rest n)))
