-- Tidy forms by computation: properties out of order; PubAcks of five bytes, of which a success becomes
-- four and another six; options and flags. Assumes nothing.
use mathlib.Core.Path.{◌≡◌, refl}
use mathlib.Core.List.{List, [], ◌∷◌, map}
use Prim.Native.Nat.{ℕ}
use Rattle.grammar.specs.Text.{rows}
use Rattle.grammar.specs.Tables.{publish_row, subscribe_row, ack_row, unsubscribe_row, reasons, release_reasons, sub_ack_reasons, unsub_ack_reasons, kinds, reasons_of, firsts, first_of}
use Rattle.grammar.specs.Record.{last_of, all_of, publish_props, props_of}
use Rattle.reading.specs.Refusal.{within, over}
use Rattle.reading.specs.Reader.{got, none_of, never_of, map_of, only_of, only_by_of, head_of, then_of, sized_of, is_fit, map_fit, hand_fit, only_fit, then_fit, exact_fit, run_fit, chain_fit}
use Rattle.reading.specs.Read.{big_of, byte_of, group_of, groups_of, num_of, ident_of, follow_of, rest_of, char_of, is_text, frame_of, body_answer, string_fit, bytes_of, text_of, value_of, value_at, property_of, once_of, properties_fit, block_of, ack_block_fit, ack_rest_fit, reasons_fit, filter_of, filters_fit, topics_fit, message_fit, fields_fit, layout_fit, body_fit, whole_answer, frame_answer, read_as}
use Rattle.writing.specs.Handed.{publish_given, subscribe_given, ack_given, unsubscribe_given, filters, block_belongs, filters_belong, belongs}
use Rattle.writing.specs.Spell.{wide, spell_step, spell, short, string, numeral, value, props_bytes, counted, block}
use Rattle.writing.specs.Size.{props_size, rest_is, size_is}
use Rattle.writing.specs.Order.{judge, props_fields, fields_of, permit}
use Rattle.writing.specs.Write.{first_byte, body_bytes, frame_bytes, write_of}
use Rattle.tidy_form.specs.Tidy.{handed_of, rewrite, tidy_of}

abbrev pub tidied : List (List ℕ × List ℕ)
tidied = (
  0x30 ∷ 0x08 ∷ 0x00 ∷ 0x01 ∷ 0x61 ∷ 0x04 ∷ 0x0B ∷ 0x05 ∷ 0x01 ∷ 0x01 ∷ [],
  0x30 ∷ 0x08 ∷ 0x00 ∷ 0x01 ∷ 0x61 ∷ 0x04 ∷ 0x01 ∷ 0x01 ∷ 0x0B ∷ 0x05 ∷ [],
)
    ∷ (0x40 ∷ 0x03 ∷ 0x00 ∷ 0x0A ∷ 0x10 ∷ [], 0x40 ∷ 0x04 ∷ 0x00 ∷ 0x0A ∷ 0x10 ∷ 0x00 ∷ [])
    ∷ (0x40 ∷ 0x03 ∷ 0x00 ∷ 0x0A ∷ 0x00 ∷ [], 0x40 ∷ 0x02 ∷ 0x00 ∷ 0x0A ∷ [])
    ∷ (0x50 ∷ 0x03 ∷ 0x00 ∷ 0x0A ∷ 0x10 ∷ [], 0x50 ∷ 0x04 ∷ 0x00 ∷ 0x0A ∷ 0x10 ∷ 0x00 ∷ [])
    ∷ (0x60 ∷ 0x03 ∷ 0x00 ∷ 0x0A ∷ 0x92 ∷ [], 0x62 ∷ 0x04 ∷ 0x00 ∷ 0x0A ∷ 0x92 ∷ 0x00 ∷ [])
    ∷ (0x7F ∷ 0x04 ∷ 0x00 ∷ 0x0A ∷ 0x00 ∷ 0x00 ∷ [], 0x70 ∷ 0x02 ∷ 0x00 ∷ 0x0A ∷ [])
    ∷ (0x9F ∷ 0x05 ∷ 0x00 ∷ 0x01 ∷ 0x00 ∷ 0x00 ∷ 0xA2 ∷ [], 0x90 ∷ 0x05 ∷ 0x00 ∷ 0x01 ∷ 0x00 ∷ 0x00 ∷ 0xA2 ∷ [])
    ∷ (0xA0 ∷ 0x06 ∷ 0x00 ∷ 0x01 ∷ 0x00 ∷ 0x00 ∷ 0x01 ∷ 0x61 ∷ [], 0xA2 ∷ 0x06 ∷ 0x00 ∷ 0x01 ∷ 0x00 ∷ 0x00 ∷ 0x01 ∷ 0x61 ∷ [])
    ∷ (0xBF ∷ 0x04 ∷ 0x00 ∷ 0x01 ∷ 0x00 ∷ 0x11 ∷ [], 0xB0 ∷ 0x04 ∷ 0x00 ∷ 0x01 ∷ 0x00 ∷ 0x11 ∷ [])
    ∷ (0x8F ∷ 0x07 ∷ 0x00 ∷ 0x01 ∷ 0x00 ∷ 0x00 ∷ 0x01 ∷ 0x61 ∷ 0xC1 ∷ [], 0x82 ∷ 0x07 ∷ 0x00 ∷ 0x01 ∷ 0x00 ∷ 0x00 ∷ 0x01 ∷ 0x61 ∷ 0x01 ∷ [])
    ∷ (0xC3 ∷ 0x01 ∷ 0x07 ∷ [], 0xC0 ∷ 0x00 ∷ [])
    ∷ []

pub tidied_right : map (λ (t : List ℕ × List ℕ). tidy_of t.0) tidied ≡ map (λ (t : List ℕ × List ℕ). got t.1) tidied
unfolding rows publish_row subscribe_row ack_row unsubscribe_row kinds reasons release_reasons sub_ack_reasons unsub_ack_reasons reasons_of last_of all_of publish_props props_of none_of never_of map_of only_of only_by_of head_of then_of sized_of is_fit map_fit hand_fit only_fit then_fit exact_fit run_fit chain_fit byte_of follow_of rest_of char_of is_text big_of group_of groups_of num_of ident_of string_fit bytes_of text_of value_of value_at property_of once_of properties_fit block_of ack_block_fit ack_rest_fit reasons_fit filter_of filters_fit topics_fit message_fit fields_fit layout_fit body_fit within over frame_of body_answer whole_answer frame_answer read_as spell spell_step publish_given subscribe_given ack_given unsubscribe_given filters block_belongs filters_belong belongs wide short string numeral value props_bytes counted block props_size rest_is size_is judge props_fields fields_of permit firsts first_of first_byte body_bytes frame_bytes write_of handed_of rewrite tidy_of
tidied_right = refl
