-- Streams of 02's P10, by computation: what each lists whole, and cut into pieces. Assumes nothing.
use mathlib.Core.Path.{◌≡◌, refl}
use mathlib.Core.Option.{Option, none, some}
use mathlib.Core.List.{List, [], ◌∷◌, map, flatten}
use Prim.Native.Nat.{ℕ, zero, suc}
use Rattle.grammar.specs.Tables.{kinds}
use Rattle.grammar.specs.Sentence.{Packet}
use Rattle.reading.specs.Refusal.{Answer, accepted, refused, within, over}
use Rattle.reading.specs.Reader.{Fit, got, bad, none_of, map_of, only_of, only_by_of, head_of, then_of, sized_of, is_fit, map_fit, hand_fit, then_fit, run_fit, chain_fit}
use Rattle.reading.specs.Read.{big_of, byte_of, group_of, groups_of, num_of, ident_of, frame_of, body_answer, string_fit, bytes_of, once_of, properties_fit, block_of, message_fit, fields_fit, layout_fit, body_fit, whole_answer, frame_answer, read_as}
use Rattle.reading.specs.Place.{held_of}
use Rattle.pieces_rules.specs.Whole.{header_under, longer, answer_as, at_once, turn_of, list_from, list_of}
use Rattle.pieces_rules.specs.Step.{fresh, serves, step_by}
use Rattle.pieces_rules.specs.Feed.{feed_from, feed, feed_all}

-- the number of the refusal, or 0 for a record; and the bytes taken
brief : Answer Packet → ℕ × ℕ
brief (accepted v n) = (0, n)
brief (refused k vs n) = (k, n)

said : Fit (Answer Packet) → ℕ × ℕ
said (got a) = brief a
said (bad k) = (99, 0)

-- PingReq; kind 15; the a/b frame of the bench; a length of five bytes; PingReq
pieces : List (List ℕ)
pieces = (0xC0 ∷ []) ∷ [] ∷ (0 ∷ 0xF0 ∷ 0 ∷ 0x30 ∷ []) ∷ (8 ∷ 0 ∷ 3 ∷ 0x61 ∷ []) ∷ (0x2F ∷ 0x62 ∷ 0 ∷ 0x68 ∷ 0x69 ∷ 0x30 ∷ 0x80 ∷ []) ∷ (0x80 ∷ 0x80 ∷ 0x80 ∷ 0xC0 ∷ []) ∷ (0 ∷ []) ∷ []

-- a buffer of n bytes
room : ℕ → List ℕ
room zero = []
room (suc n) = 7 ∷ room n

-- kind 15 between two pings
pings : List (List ℕ)
pings = (0xC0 ∷ 0 ∷ 0xF0 ∷ []) ∷ (0 ∷ 0xD0 ∷ 0 ∷ 0x30 ∷ []) ∷ []

module _ (limit : Option ℕ) (cap : ℕ) (ps : List (List ℕ)) where
  abbrev cut : List (ℕ × ℕ)
  cut = map said (feed_all limit fresh (room cap) ps).list

  abbrev whole : List (ℕ × ℕ)
  whole = map brief (list_of limit cap (flatten ps))

-- the a/b frame has 10 bytes: a buffer of 10 holds it, one of 9 does not, and under a limit of 7 it is 3 in either; a frame unfinished at the end
-- gives none
right : ◌≡◌ {A = List (List (ℕ × ℕ))}
    (cut none 10 pieces ∷ whole none 10 pieces ∷ cut none 9 pieces ∷ whole none 9 pieces ∷ cut (some 7) 9 pieces ∷ whole (some 7) 10 pieces ∷ cut none 5 pings ∷ whole none 5 pings ∷ cut none 4 pings ∷ [])
    (((0, 2) ∷ (4, 2) ∷ (0, 10) ∷ (2, 0) ∷ []) ∷ ((0, 2) ∷ (4, 2) ∷ (0, 10) ∷ (2, 0) ∷ [])
    ∷ ((0, 2) ∷ (4, 2) ∷ (36, 0) ∷ []) ∷ ((0, 2) ∷ (4, 2) ∷ (36, 0) ∷ [])
    ∷ ((0, 2) ∷ (4, 2) ∷ (3, 0) ∷ []) ∷ ((0, 2) ∷ (4, 2) ∷ (3, 0) ∷ [])
    ∷ ((0, 2) ∷ (4, 2) ∷ (0, 2) ∷ []) ∷ ((0, 2) ∷ (4, 2) ∷ (0, 2) ∷ [])
    ∷ ((35, 0) ∷ (35, 0) ∷ []) ∷ [])
unfolding said brief pieces room pings feed_all feed feed_from step_by serves flatten list_of list_from turn_of at_once answer_as longer header_under within over read_as frame_answer whole_answer body_answer frame_of body_fit layout_fit fields_fit message_fit block_of properties_fit once_of bytes_of string_fit ident_of num_of groups_of group_of byte_of big_of none_of map_of only_of only_by_of head_of then_of sized_of is_fit map_fit hand_fit then_fit chain_fit run_fit held_of kinds
right = refl
