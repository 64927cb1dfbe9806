-- Every string, block and run of a record that is read stands in its sentence where the grammar has it. Assumes nothing.
use mathlib.Core.Path.{◌≡◌, refl, sym, ap, ◌∙◌, subst}
use mathlib.Core.Bool.{not, ◌||◌}
use mathlib.Core.Option.{Option, none, some}
use mathlib.Core.List.{List, [], ◌∷◌, ◌++◌}
use Prim.Native.Nat.{ℕ, ◌+◌, ◌-◌, ◌≤◌}
use native.Mathlib.Omega.{arith}
use lib.ListN.{length, length-append}
use Rattle.grammar.specs.Choice.{is_in, lookup, is_empty}
use Rattle.grammar.specs.Number.{Byte, byte, Spells}
use Rattle.grammar.specs.Text.{Utf8}
use Rattle.grammar.specs.Gram.{Only, OnlyBy, only_by, both, sized, is}
use Rattle.grammar.specs.Tables.{Form, u8, u16, u32, number, text, bytes, pair, Row, publish_row, subscribe_row, ack_row, unsubscribe_row, Layout, a_publish, an_ack, a_subscribe, a_reply, an_unsubscribe, a_ping, kinds, reserved, is_ping, form_at}
use Rattle.grammar.specs.Record.{num, str, PropOf, Props, kind_of, flag_qos, mk_publish, mk_ack, mk_filter, mk_subscribe, mk_reply, mk_unsubscribe, mk_ping}
use Rattle.grammar.specs.Sentence.{Any, duo_of, not_zero, not_three, qos_fine, rule_fine, some_of, Frame}
use Rattle.reading.specs.Refusal.{nr, accepted, cut, crossed, passes}
use Rattle.reading.specs.Reader.{Fit, got, bad, ◌>>=◌}
use Rattle.reading.specs.Read.{is_text, any_bytes, reasons_fit, frame_of, body_answer, bytes_of, text_of, value_of, value_at, property_of, properties_fit, block_of, publish_as, props_as, ack_block_fit, ack_rest_fit, filter_of, filters_fit, topics_fit, message_fit, fields_fit, layout_fit, body_fit, whole_answer, frame_answer, read_as}
use Rattle.reading.specs.Place.{Span, Placed, as_places, read_placed_of}
use Rattle.reading.proofs.Reading.{bad_got, from_got, from_bind, from_guard, Cut, count_front, reads_only, fills_is}
use Rattle.reading.proofs.Fields.{reads_byte, reads_big, reads_num, text_fine, any_fine}
use Rattle.reading.proofs.Packets.{reads_ident}
use Rattle.reading.proofs.Demand.{no_accept, reads_length, reads_frame}
use Rattle.positions.proofs.Less.{once_many}
use Rattle.placing.specs.Placing as placing
use Rattle.placing.specs.Placing.{GramAt, ThenAt, HandedAt, handed, ManyAt, BytesAt, TextAt, SpeltAt, PropertyAt, property, BlockAt, publish_from, props_from, FilterAt, RunAt, AckRestAt, plain, coded, full, FieldsAt, PlacedSentence, PlacedIn}
use Rattle.placing.proofs.Laws.{SplitsAt, FillsAt, splits_plain, fills_plain, splits_map, splits_then, fills_then, splits_sized, fills_map, fills_hand, fills_string, fills_many, fills_only, fills_exact}

-- ---- strings and properties

bytes_at_lem : SplitsAt (bytes_of as_places) BytesAt
unfolding bytes_of
bytes_at_lem = splits_sized crossed (reads_big cut 2) (fills_string any_bytes Any cut any_fine)

text_at_lem : SplitsAt (text_of as_places) TextAt
unfolding text_of
text_at_lem = splits_sized crossed (reads_big cut 2) (fills_string is_text Utf8 (nr 9 []) text_fine)

value_at_lem : (k : Form) → SplitsAt (value_of as_places k) (SpeltAt k)
unfolding value_of
value_at_lem u8 = splits_map num (splits_plain (reads_byte cut))
value_at_lem u16 = splits_map num (splits_plain (reads_big cut 2))
value_at_lem u32 = splits_map num (splits_plain (reads_big cut 4))
value_at_lem number = splits_map num (splits_plain (reads_only not_zero (λ _. nr 23 []) (reads_num cut 4)))
value_at_lem text = splits_map str text_at_lem
value_at_lem bytes = splits_map str bytes_at_lem
value_at_lem pair = splits_map duo_of (splits_then text_at_lem (λ _. text_at_lem))

-- a value behind its identifier
behind_one : (place : Row) (end i : ℕ) (s : List ℕ) → length (i ∷ s) ≤ end → (o : Option Form) → form_at place i ≡ o → (z : PropOf Span × List ℕ) → value_at as_places o i end s ≡ got z
    → Cut (PropertyAt place (end - length (i ∷ s))) (i ∷ s) z
unfolding value_at
behind_one place end i s h none e = λ z f. absurd (bad_got f)
behind_one place end i s h (some k) e = from_bind (value_of as_places k end s) (λ y. got ((i, y.0), y.1)) λ y f.
    let (b, e₁, g) = (value_at_lem k).split end s (omega arith) y f in
    let n : end - length s ≡ end - length (i ∷ s) + 1 = omega arith in
    from_got (Cut (PropertyAt place (end - length (i ∷ s))) (i ∷ s)) ((i, y.0), y.1)
    (i ∷ b, ap (λ (l : List ℕ). i ∷ l) e₁, property e (subst (λ (m : ℕ). SpeltAt k m y.0 b) n g))

property_split : (place : Row) (end : ℕ) (s : List ℕ) → length s ≤ end → (z : PropOf Span × List ℕ) → property_of as_places place end s ≡ got z → Cut (PropertyAt place (end - length s)) s z
unfolding property_of
property_split place end [] h = λ z e. absurd (bad_got e)
property_split place end (i ∷ s) h = behind_one place end i s h (form_at place i) refl

property_at_lem : (place : Row) → SplitsAt (property_of as_places place) (PropertyAt place)
property_at_lem place = record { split = property_split place }

properties_at : (place : Row) → FillsAt (properties_fit as_places place) (ManyAt (PropertyAt place))
unfolding properties_fit
properties_at place = record { back = λ end s h vs e. (fills_many (property_at_lem place)).back end s h vs (once_many as_places place end [] s vs e) }

publish_block_at : SplitsAt (block_of as_places publish_row (publish_as as_places)) (BlockAt publish_row publish_from)
unfolding block_of
publish_block_at = splits_sized crossed (reads_num cut 4) (fills_hand publish_from (properties_at publish_row))

block_at : (place : Row) → SplitsAt (block_of as_places place (props_as as_places)) (BlockAt place props_from)
unfolding block_of
block_at place = splits_sized crossed (reads_num cut 4) (fills_hand props_from (properties_at place))

-- ---- entries

filter_at_lem : SplitsAt (filter_of as_places) FilterAt
unfolding filter_of
filter_at_lem = splits_map mk_filter (splits_then text_at_lem (λ _. splits_plain (reads_only qos_fine (λ _. nr 11 (3 ∷ [])) (reads_only rule_fine (λ _. nr 14 (3 ∷ [])) (reads_byte cut)))))

filters_at : FillsAt (filters_fit as_places) (ManyAt FilterAt)
unfolding filters_fit
filters_at = fills_only some_of (nr 13 []) (fills_many filter_at_lem)

topics_at : FillsAt (topics_fit as_places) (ManyAt TextAt)
unfolding topics_fit
topics_at = fills_only some_of (nr 13 []) (fills_many text_at_lem)

reasons_at : (rs : List ℕ) → FillsAt (reasons_fit rs) (ManyAt (λ _. Only (λ c. is_in c rs) Byte))
unfolding reasons_fit
reasons_at rs = fills_only some_of (nr 13 []) (fills_many (splits_plain (reads_only (λ c. is_in c rs) (λ c. nr 15 (c ∷ [])) (reads_byte cut))))

-- ---- an acknowledgement

ack_block : (row : Row) (end c : ℕ) (r : List ℕ) → length (c ∷ r) ≤ end → (ps : Option (Props Span (λ A. Span))) → ack_block_fit as_places row end r ≡ got ps → AckRestAt row (end - length (c ∷ r)) (c, ps) (c ∷ r)
unfolding ack_block_fit
ack_block row end c [] h = from_got (λ ps. AckRestAt row (end - length (c ∷ [])) (c, ps) (c ∷ [])) none coded
ack_block row end c (x ∷ r) h = λ ps e.
    let n : end - length (x ∷ r) ≡ end - length (c ∷ x ∷ r) + 1 = omega arith in
    full (subst (λ (m : ℕ). BlockAt row props_from m ps (x ∷ r)) n ((fills_exact cut (block_at row)).back end (x ∷ r) (omega arith) ps e))

ack_rest : (row : Row) (rs : List ℕ) (end : ℕ) (s : List ℕ) → length s ≤ end → (z : ℕ × Option (Props Span (λ A. Span))) → ack_rest_fit as_places row rs end s ≡ got z → AckRestAt row (end - length s) z s
unfolding ack_rest_fit
ack_rest row rs end [] h = from_got (λ z. AckRestAt row (end - 0) z []) (0, none) plain
ack_rest row rs end (c ∷ r) h = from_guard (is_in c rs) (nr 15 (c ∷ [])) (ack_block_fit as_places row end r >>= λ ps. got (c, ps)) λ _.
    from_bind (ack_block_fit as_places row end r) (λ ps. got (c, ps)) λ ps e. from_got (λ z. AckRestAt row (end - length (c ∷ r)) z (c ∷ r)) (c, ps) (ack_block row end c r h ps e)

-- ---- packets

message_at : (x : ℕ) → FillsAt (message_fit as_places x) (FieldsAt a_publish x)
unfolding message_fit
message_at x = fills_map (mk_publish x) (fills_then bytes_at_lem (λ _. fills_then (splits_plain (reads_ident (flag_qos x))) (λ _. fills_then publish_block_at (λ _. fills_string any_bytes Any cut any_fine))))

fields_back : (l : Layout) (x end : ℕ) (b : List ℕ) → length b ≤ end → (v : Placed) → fields_fit as_places l x end b ≡ got v → FieldsAt l x (end - length b) v b
unfolding fields_fit
fields_back a_publish x end b h = from_guard (not_three (flag_qos x)) (nr 11 (3 ∷ [])) (message_fit as_places x end b) λ _. (message_at x).back end b h
fields_back (an_ack rs) x end b h = (fills_map (mk_ack x) (fills_then (splits_plain (reads_big cut 2)) (λ _. record { back = ack_rest ack_row rs }))).back end b h
fields_back a_subscribe x end b h = (fills_map mk_subscribe (fills_then (splits_plain (reads_big cut 2)) (λ _. fills_then (block_at subscribe_row) (λ _. fills_hand (λ vs p. p) filters_at)))).back end b h
fields_back (a_reply rs) x end b h = (fills_map (mk_reply x) (fills_then (splits_plain (reads_big cut 2)) (λ _. fills_then (block_at ack_row) (λ _. fills_hand (λ vs p. p) (reasons_at rs))))).back end b h
fields_back an_unsubscribe x end b h = (fills_map mk_unsubscribe (fills_then (splits_plain (reads_big cut 2)) (λ _. fills_then (block_at unsubscribe_row) (λ _. fills_hand (λ vs p. p) topics_at)))).back end b h
fields_back a_ping x end b h = (fills_map (mk_ping x) (fills_plain (fills_is any_bytes Any cut any_fine))).back end b h

layout_back : (x end : ℕ) (b : List ℕ) → length b ≤ end → (o : Option Layout) → lookup kinds (kind_of x) ≡ o → (v : Placed) → layout_fit as_places o x end b ≡ got v
    → (l : Layout) × (lookup kinds (kind_of x) ≡ some l) × FieldsAt l x (end - length b) v b
unfolding layout_fit
layout_back x end b h none i = λ v e. absurd (bad_got e)
layout_back x end b h (some l) i = λ v e. (l, i, fields_back l x end b h v e)

body_back : (x end : ℕ) (b : List ℕ) → length b ≤ end → (v : Placed) → body_fit as_places x end b ≡ got v → (l : Layout) × (lookup kinds (kind_of x) ≡ some l) × FieldsAt l x (end - length b) v b
unfolding body_fit
body_back x end b h = from_guard (not (is_in (kind_of x) reserved)) (nr 4 (kind_of x ∷ [])) _ λ _.
    from_guard (is_ping (lookup kinds (kind_of x)) || not (is_empty b)) (nr 5 []) _ λ _.
    layout_back x end b h (lookup kinds (kind_of x)) refl

-- ---- the stream

-- a whole frame, whose body ends where it does
frame_placed : (limit : Option ℕ) (z : ℕ × List ℕ) (c : List ℕ) → Frame (OnlyBy (passes limit) Spells) z c → (v : Placed) → body_fit as_places z.0 (length c) z.1 ≡ got v → PlacedSentence v c
frame_placed limit _ _ (both {a = x} byte (sized {b = b} {c = c} (only_by t k) (is _))) v e =
    let o : length (c ++ b) ≡ length c + length b = length-append c b in
    let (l, i, g) = body_back x (length (x ∷ (c ++ b))) b (omega arith) v e in
    let m : length (x ∷ (c ++ b)) - length b ≡ 1 + length c = omega arith in
    placing.PlacedSentence.framed b c i k (subst (λ (n : ℕ). FieldsAt l x n v b) m g)

module _ (limit : Option ℕ) (s : List ℕ) (v : Placed) (n : ℕ) where
  body_placed : (z : (ℕ × List ℕ) × List ℕ) (c : List ℕ) → s ≡ c ++ z.1 → Frame (OnlyBy (passes limit) Spells) z.0 c → (m : Fit Placed) → body_fit as_places z.0.0 (length s - length z.1) z.0.1 ≡ m
      → body_answer (length s - length z.1) m ≡ accepted v n → PlacedIn s v n
  unfolding body_answer
  body_placed z c e f (bad (nr k vs)) i h = absurd (no_accept h)
  body_placed z c e f (got w) i h =
      let j : w ≡ v = cc in
      let o : length s - length z.1 ≡ n = cc in
      let l : length s - length z.1 ≡ length c = count_front s c z.1 e in
      (c, z.1, e, sym l ∙ o, frame_placed limit z.0 c f v (subst (λ (k : ℕ). body_fit as_places z.0.0 k z.0.1 ≡ got v) l (i ∙ ap got j)))

  answer_placed : (m : Fit ((ℕ × List ℕ) × List ℕ)) → frame_of limit (length s) s ≡ m → frame_answer as_places s m ≡ accepted v n → PlacedIn s v n
  unfolding frame_answer whole_answer
  answer_placed (bad (nr k vs)) e h = absurd (no_accept h)
  answer_placed (got z) e h =
      let (c, e₁, f) = (reads_frame limit (reads_length limit) (length s)).split s z e in
      body_placed z c e₁ f (body_fit as_places z.0.0 (length s - length z.1) z.0.1) refl h

  -- 01, "What must change shape": every place of every record that is read
  pub read_placed : read_placed_of limit s ≡ accepted v n → PlacedIn s v n
  unfolding read_as
  read_placed = answer_placed (frame_of limit (length s) s) refl
