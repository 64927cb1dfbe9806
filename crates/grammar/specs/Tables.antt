-- The tables of 01: which properties stand in which row, which reasons an acknowledgement may give, which kinds are carried. They stand
-- once: the grammar, the reader and the writer look them up here. Assumes nothing.
use Rattle.std.specs.Prelude.{Bool, true, false, List, [], ◌∷◌, ℕ}
use Rattle.std.proofs.Math.Option.{Option, none, some}
use Rattle.grammar.specs.Choice.{is_in, lookup}

-- 01, table of properties: the forms of a value
pub data Form : Type 0 where
  u8 u16 u32 number text bytes pair : Form

-- 01, table of properties: a row, identifiers with their forms, in the order of the table
abbrev pub Forms : Type 0
Forms = List (ℕ × Form)

-- 01, table of properties: a row; 01, grammar: "38, and 11 in Publish, are lists": those of its identifiers that are
pub record Row : Type 0 where
  pub forms : Forms
  pub lists : List ℕ

-- 01, table of properties, row Publish
unfoldable pub publish_row : Row
publish_row = record { forms = (1, u8) ∷ (2, u32) ∷ (35, u16) ∷ (8, text) ∷ (9, bytes) ∷ (38, pair) ∷ (11, number) ∷ (3, text) ∷ []; lists = 38 ∷ 11 ∷ [] }

-- 01, table of properties, row Subscribe
unfoldable pub subscribe_row : Row
subscribe_row = record { forms = (11, number) ∷ (38, pair) ∷ []; lists = 38 ∷ [] }

-- 01, table of properties, row PubAck
unfoldable pub ack_row : Row
ack_row = record { forms = (31, text) ∷ (38, pair) ∷ []; lists = 38 ∷ [] }

-- 02, P1, and MQTT 3.10.2.1: row Unsubscribe
unfoldable pub unsubscribe_row : Row
unsubscribe_row = record { forms = (38, pair) ∷ []; lists = 38 ∷ [] }

-- 01, grammar: ".. are lists kept in order"; any other is single-valued
abbrev pub is_list : Row → ℕ → Bool
is_list row i = is_in i row.lists

-- 01, row 10: "identifier not in its place's row", else its form
abbrev pub form_at : Row → ℕ → Option Form
form_at row = lookup row.forms

-- 01, grammar, PubAck: "Reasons, in the order of `PubAckReason`"; MQTT 3.5.2.1: PubRec gives the same
unfoldable pub reasons : List ℕ
reasons = 0x00 ∷ 0x10 ∷ 0x80 ∷ 0x83 ∷ 0x87 ∷ 0x90 ∷ 0x91 ∷ 0x97 ∷ 0x99 ∷ []

-- 02, P1: the reasons of PubRel and PubComp (MQTT 3.6.2.1, 3.7.2.1)
unfoldable pub release_reasons : List ℕ
release_reasons = 0x00 ∷ 0x92 ∷ []

-- 02, P1: the reasons of SubAck (MQTT 3.9.3)
unfoldable pub sub_ack_reasons : List ℕ
sub_ack_reasons = 0x00 ∷ 0x01 ∷ 0x02 ∷ 0x80 ∷ 0x83 ∷ 0x87 ∷ 0x8F ∷ 0x91 ∷ 0x97 ∷ 0x9E ∷ 0xA1 ∷ 0xA2 ∷ []

-- 02, P1: the reasons of UnsubAck (MQTT 3.11.3)
unfoldable pub unsub_ack_reasons : List ℕ
unsub_ack_reasons = 0x00 ∷ 0x11 ∷ 0x80 ∷ 0x83 ∷ 0x87 ∷ 0x8F ∷ 0x91 ∷ []

-- 01, grammar, from Publish on: how the R bytes of a frame are laid out; an acknowledgement by the reasons that it may give.
-- 02, P1: "The four publish acknowledgements share one layout": `an_ack`; SubAck and UnsubAck another, `a_reply`
pub data Layout : Type 0 where
  a_publish : Layout
  an_ack : List ℕ → Layout
  a_subscribe : Layout
  a_reply : List ℕ → Layout
  an_unsubscribe : Layout
  a_ping : Layout

-- 01, grammar: "Publish (3)", "PubAck (4)", "Subscribe (8)", "PingReq (12), PingResp (13)"; 02, P1: PubRec (5), PubRel (6), PubComp (7),
-- SubAck (9), Unsubscribe (10), UnsubAck (11)
unfoldable pub kinds : List (ℕ × Layout)
kinds = (3, a_publish) ∷ (4, an_ack reasons) ∷ (5, an_ack reasons) ∷ (6, an_ack release_reasons) ∷ (7, an_ack release_reasons)
    ∷ (8, a_subscribe) ∷ (9, a_reply sub_ack_reasons) ∷ (10, an_unsubscribe) ∷ (11, a_reply unsub_ack_reasons) ∷ (12, a_ping) ∷ (13, a_ping) ∷ []

-- 01, row 4: "k is 0 or 15"
abbrev pub reserved : List ℕ
reserved = 0 ∷ 15 ∷ []

-- 01, row 5: "kind not a ping"; a kind that is not carried is none either
abbrev pub is_ping : Option Layout → Bool
is_ping none = false
is_ping (some a_publish) = false
is_ping (some (an_ack rs)) = false
is_ping (some a_subscribe) = false
is_ping (some (a_reply rs)) = false
is_ping (some an_unsubscribe) = false
is_ping (some a_ping) = true

-- the reasons that a layout lists; none where it lists none
abbrev pub listed : Option Layout → List ℕ
listed none = []
listed (some a_publish) = []
listed (some (an_ack rs)) = rs
listed (some a_subscribe) = []
listed (some (a_reply rs)) = rs
listed (some an_unsubscribe) = []
listed (some a_ping) = []

-- 02, P1: the reasons that a kind may give
unfoldable pub reasons_of : ℕ → List ℕ
reasons_of k = listed (lookup kinds k)

-- 01, table of properties; 02, P1: the place whose row the block of a layout has; a ping has no block
abbrev pub row_of_layout : Option Layout → Option Row
row_of_layout none = none
row_of_layout (some a_publish) = some publish_row
row_of_layout (some (an_ack rs)) = some ack_row
row_of_layout (some a_subscribe) = some subscribe_row
row_of_layout (some (a_reply rs)) = some ack_row
row_of_layout (some an_unsubscribe) = some unsubscribe_row
row_of_layout (some a_ping) = none

-- the same of a kind
unfoldable pub row_of_kind : ℕ → Option Row
row_of_kind k = row_of_layout (lookup kinds k)

-- 01, grammar: "first byte 0x82 for Subscribe, 0x40 for PubAck, `C0 00` and `D0 00` for pings"; 02, P1, and MQTT 3.5 to 3.7, 3.9 to 3.11: PubRec 50,
-- PubRel 62, PubComp 70, SubAck 90, Unsubscribe A2, UnsubAck B0
unfoldable pub firsts : List (ℕ × ℕ)
firsts = (4, 0x40) ∷ (5, 0x50) ∷ (6, 0x62) ∷ (7, 0x70) ∷ (8, 0x82) ∷ (9, 0x90) ∷ (10, 0xA2) ∷ (11, 0xB0) ∷ (12, 0xC0) ∷ (13, 0xD0) ∷ []

-- 0 for a kind that is not in the table
abbrev first_or_zero : Option ℕ → ℕ
first_or_zero none = 0
first_or_zero (some x) = x

-- the first byte of a kind of the table
unfoldable pub first_of : ℕ → ℕ
first_of k = first_or_zero (lookup firsts k)
