-- Where the properties stand (02's P7), of frames of every layout: a list, and one statement. Assumes nothing.
use mathlib.Core.Path.{◌≡◌, refl}
use mathlib.Core.Option.{none}
use mathlib.Core.List.{List, [], ◌∷◌, map}
use Prim.Native.Nat.{ℕ}
use Rattle.grammar.specs.Text.{rows}
use Rattle.grammar.specs.Tables.{publish_row, subscribe_row, ack_row, unsubscribe_row, reasons, release_reasons, sub_ack_reasons, unsub_ack_reasons, kinds}
use Rattle.grammar.specs.Record.{last_of, all_of, publish_props, props_of}
use Rattle.reading.specs.Refusal.{nr, within, over}
use Rattle.reading.specs.Reader.{got, bad, none_of, never_of, map_of, only_of, only_by_of, head_of, then_of, sized_of, is_fit, map_fit, hand_fit, only_fit, then_fit, exact_fit, run_fit, chain_fit}
use Rattle.reading.specs.Read.{big_of, byte_of, group_of, groups_of, num_of, ident_of, follow_of, rest_of, char_of, is_text, frame_of, body_answer, string_fit, bytes_of, text_of, value_of, value_at, property_of, once_of, properties_fit, block_of, ack_block_fit, ack_rest_fit, reasons_fit, filter_of, filters_fit, topics_fit, message_fit, fields_fit, layout_fit, body_fit, whole_answer, frame_answer, read_as}
use Rattle.reading.specs.Place.{again, values_at, user_at, subscription_at, filter_at, reason_at, topic_at}
use Rattle.reading.specs.Bounds.{field_bounds, frame_bounds, bounds_of}

-- a stream, and where the properties of its first frame start and end
abbrev stands : List (List ℕ × (ℕ × ℕ))
stands =
    -- 01: topic a/b, payload hi: L = 0
    (0x30 ∷ 0x08 ∷ 0x00 ∷ 0x03 ∷ 0x61 ∷ 0x2F ∷ 0x62 ∷ 0x00 ∷ 0x68 ∷ 0x69 ∷ [], (8, 8))
    -- 01: three identifiers
    ∷ (0x30 ∷ 0x0B ∷ 0x00 ∷ 0x01 ∷ 0x61 ∷ 0x06 ∷ 0x0B ∷ 0x01 ∷ 0x0B ∷ 0x02 ∷ 0x0B ∷ 0x03 ∷ 0x07 ∷ [], (6, 12))
    -- an identifier before the block
    ∷ (0x32 ∷ 0x08 ∷ 0x00 ∷ 0x01 ∷ 0x61 ∷ 0x00 ∷ 0x07 ∷ 0x02 ∷ 0x01 ∷ 0x01 ∷ [], (8, 10))
    -- a Subscribe, L = 0, and with an identifier
    ∷ (0x82 ∷ 0x07 ∷ 0x00 ∷ 0x01 ∷ 0x00 ∷ 0x00 ∷ 0x01 ∷ 0x61 ∷ 0x01 ∷ [], (5, 5))
    ∷ (0x82 ∷ 0x09 ∷ 0x00 ∷ 0x07 ∷ 0x02 ∷ 0x0B ∷ 0x05 ∷ 0x00 ∷ 0x01 ∷ 0x61 ∷ 0x01 ∷ [], (5, 7))
    -- publish acknowledgements of R = 2, of R = 3, of R = 4 with L = 0, and with a reason string; bytes follow two of them
    ∷ (0x40 ∷ 0x02 ∷ 0x00 ∷ 0x0A ∷ 0x99 ∷ [], (4, 4))
    ∷ (0x50 ∷ 0x03 ∷ 0x00 ∷ 0x0A ∷ 0x10 ∷ [], (5, 5))
    ∷ (0x62 ∷ 0x04 ∷ 0x00 ∷ 0x0A ∷ 0x00 ∷ 0x00 ∷ 0x99 ∷ [], (6, 6))
    ∷ (0x70 ∷ 0x08 ∷ 0x00 ∷ 0x0A ∷ 0x92 ∷ 0x04 ∷ 0x1F ∷ 0x00 ∷ 0x01 ∷ 0x6E ∷ [], (6, 10))
    -- a SubAck, L = 0, and an UnsubAck with a reason string
    ∷ (0x90 ∷ 0x04 ∷ 0x00 ∷ 0x01 ∷ 0x00 ∷ 0x01 ∷ [], (5, 5))
    ∷ (0xB0 ∷ 0x08 ∷ 0x00 ∷ 0x01 ∷ 0x04 ∷ 0x1F ∷ 0x00 ∷ 0x01 ∷ 0x6E ∷ 0x11 ∷ [], (5, 9))
    -- an Unsubscribe, L = 0, and with a user property
    ∷ (0xA2 ∷ 0x06 ∷ 0x00 ∷ 0x01 ∷ 0x00 ∷ 0x00 ∷ 0x01 ∷ 0x61 ∷ [], (5, 5))
    ∷ (0xA2 ∷ 0x0B ∷ 0x00 ∷ 0x01 ∷ 0x05 ∷ 0x26 ∷ 0x00 ∷ 0x00 ∷ 0x00 ∷ 0x00 ∷ 0x00 ∷ 0x01 ∷ 0x61 ∷ [], (5, 10))
    -- pings
    ∷ (0xC0 ∷ 0x00 ∷ [], (2, 2))
    ∷ (0xD0 ∷ 0x02 ∷ 0x01 ∷ 0x02 ∷ [], (4, 4))
    ∷ []

-- 02, P7: "When absent they are equal: the place after the block's length, or F where no length was sent"; a refusal has none
abbrev Stand : Type 0
Stand =
    (map (λ z. bounds_of none z.0) stands ≡ map (λ z. got z.1) stands)
    × (bounds_of none (0x82 ∷ 0x03 ∷ 0x00 ∷ 0x01 ∷ 0x00 ∷ []) ≡ bad (nr 13 []))

pub stand : Stand
unfolding rows publish_row subscribe_row ack_row unsubscribe_row reasons release_reasons sub_ack_reasons unsub_ack_reasons kinds last_of all_of publish_props props_of none_of never_of map_of only_of only_by_of head_of then_of sized_of is_fit map_fit hand_fit only_fit then_fit exact_fit run_fit chain_fit byte_of follow_of rest_of char_of is_text big_of group_of groups_of num_of string_fit bytes_of text_of value_of value_at property_of once_of properties_fit block_of ack_block_fit ack_rest_fit ident_of reasons_fit filter_of filters_fit topics_fit message_fit fields_fit layout_fit body_fit within over frame_of body_answer whole_answer frame_answer read_as again values_at user_at subscription_at filter_at reason_at topic_at field_bounds frame_bounds bounds_of
stand = (refl, refl)
