-- The reader of each layout fills a frame just as its grammar does. Assumes nothing.
use mathlib.Core.Path.{◌≡◌, refl}
use mathlib.Core.Bool.{Bool, true, false, not, ◌||◌}
use mathlib.Core.Option.{Option, none, some}
use mathlib.Core.List.{List, [], ◌∷◌}
use Prim.Native.Nat.{ℕ, zero, suc}
use lib.Dec.{eqb}
use borrow.Author.Tests.{eqb-true}
use Rattle.grammar.specs.Choice.{is_in, lookup, is_empty}
use Rattle.grammar.specs.Gram.{Gram, Only, only, Many, Solid}
use Rattle.grammar.specs.Tables.{Row, publish_row, subscribe_row, ack_row, unsubscribe_row, Layout, a_publish, an_ack, a_subscribe, a_reply, an_unsubscribe, a_ping, kinds, reserved, is_ping}
use Rattle.grammar.specs.Record.{Props, kind_of, flag_qos, mk_publish, mk_ack, mk_filter, mk_subscribe, mk_reply, mk_unsubscribe, mk_ping}
use Rattle.grammar.specs.Sentence.{Any, Text, Block, publish_of, props_if, not_three, not_zero, Ident, publish_good, qos_fine, rule_fine, FilterOf, some_of, AckRest, plain, coded, full, ReasonOf, Packet, Fields, Body, body}
use Rattle.reading.specs.Refusal.{Refusal, cut}
use Rattle.reading.specs.Reader.{got, Filler, ◌>>=◌, ◌>>◌, guard}
use Rattle.reading.specs.Read.{ident_of, any_bytes, as_bytes, reasons_fit, block_of, publish_as, props_as, ack_block_fit, ack_rest_fit, filter_of, filters_fit, topics_fit, message_fit, fields_fit, layout_fit, body_fit}
use Rattle.reading.proofs.Reading.{bad_got, from_got, from_bind, from_guard, Reads, Fills, reads_none, reads_map, reads_only, reads_then, fills_map, fills_as, fills_many, fills_then, fills_exact, fills_only, fills_is, solid_map, solid_then, solid_sized, solid_only}
use Rattle.reading.proofs.Fields.{reads_byte, byte_solid, reads_big, big_solid, any_fine, fills_string, reads_bytes, reads_text, reads_block, block_solid}

-- ---- PubAck

pub reads_props : (row : Row) (end : ℕ) → Reads (block_of as_bytes row (props_as as_bytes) end) (Block row props_if)
reads_props row = reads_block row (props_as as_bytes) props_if (λ _ _ _. refl)

module _ (row : Row) (rs : List ℕ) (end : ℕ) where
  full_whole : (c : ℕ) (ps : Option (Props (List ℕ) List)) (b : List ℕ) → is_in c rs ≡ true → Block row props_if ps b → ack_rest_fit as_bytes row rs end (c ∷ b) ≡ got (c, ps)
  unfolding ack_rest_fit ack_block_fit
  full_whole c ps [] h g = absurd (block_solid row props_if ps [] g refl)
  full_whole c ps (x ∷ b) h g = rw (h, (fills_exact cut (reads_props row end)).whole ps (x ∷ b) g)

  rest_whole : (a : ℕ × Option (Props (List ℕ) List)) (b : List ℕ) → AckRest row rs a b → ack_rest_fit as_bytes row rs end b ≡ got a
  unfolding ack_rest_fit ack_block_fit
  rest_whole _ _ plain = refl
  rest_whole _ _ (coded h) = rw h
  rest_whole _ _ (full {c = c} {ps = ps} {b = b} h g) = full_whole c ps b h g

  block_back : (c : ℕ) (b : List ℕ) → is_in c rs ≡ true → (ps : Option (Props (List ℕ) List)) → ack_block_fit as_bytes row end b ≡ got ps → AckRest row rs (c, ps) (c ∷ b)
  unfolding ack_block_fit
  block_back c [] h = from_got (λ ps. AckRest row rs (c, ps) (c ∷ [])) none (coded h)
  block_back c (x ∷ r) h = λ ps e. full h ((fills_exact cut (reads_props row end)).back (x ∷ r) ps e)

  rest_back : (b : List ℕ) (z : ℕ × Option (Props (List ℕ) List)) → ack_rest_fit as_bytes row rs end b ≡ got z → AckRest row rs z b
  unfolding ack_rest_fit
  rest_back [] = from_got (λ z. AckRest row rs z []) (0, none) plain
  rest_back (c ∷ r) =
      from_guard (is_in c rs) _ (ack_block_fit as_bytes row end r >>= λ ps. got (c, ps)) λ h.
      from_bind (ack_block_fit as_bytes row end r) (λ ps. got (c, ps)) λ ps e.
      from_got (λ z. AckRest row rs z (c ∷ r)) (c, ps) (block_back c r h ps e)

  fills_rest : Fills (ack_rest_fit as_bytes row rs end) (AckRest row rs)
  fills_rest = record { whole = rest_whole; back = rest_back }

-- ---- Publish and Subscribe

pub reads_ident : (q : ℕ) → Reads (ident_of q) (Ident q)
unfolding ident_of
reads_ident zero = reads_none 0
reads_ident (suc q) = reads_only not_zero _ (reads_big _ 2)

pub reads_filter : (end : ℕ) → Reads (filter_of as_bytes end) FilterOf
unfolding filter_of
reads_filter end = reads_map mk_filter (reads_then (reads_text end) (λ _. reads_only qos_fine _ (reads_only rule_fine _ (reads_byte _))))

pub filter_solid : Solid FilterOf
filter_solid = solid_map mk_filter (solid_then (solid_sized (big_solid 1)))

pub fills_filters : (end : ℕ) → Fills (filters_fit as_bytes end) (Only some_of (Many FilterOf))
unfolding filters_fit
fills_filters end = fills_only some_of _ (fills_many (reads_filter end) filter_solid)

pub reads_publish_block : (end : ℕ) → Reads (block_of as_bytes publish_row (publish_as as_bytes) end) (Block publish_row publish_of)
reads_publish_block = reads_block publish_row (publish_as as_bytes) publish_of (λ _ _ _. refl)

-- ---- reasons and topics

pub reason_solid : (rs : List ℕ) → Solid (ReasonOf rs)
reason_solid rs = solid_only (λ c. is_in c rs) byte_solid

pub fills_reasons : (rs : List ℕ) (end : ℕ) → Fills (reasons_fit rs end) (Only some_of (Many (ReasonOf rs)))
unfolding reasons_fit
fills_reasons rs end = fills_only some_of _ (fills_many (reads_only (λ c. is_in c rs) _ (reads_byte _)) (reason_solid rs))

pub text_solid : Solid Text
text_solid = solid_sized (big_solid 1)

pub fills_topics : (end : ℕ) → Fills (topics_fit as_bytes end) (Only some_of (Many Text))
unfolding topics_fit
fills_topics end = fills_only some_of _ (fills_many (reads_text end) text_solid)

-- ---- every layout

module _ {q : Filler Packet} {G : Gram Packet} (t : Bool) (k : Refusal) (S : Fills q G) where
  first_whole : (v : Packet) (b : List ℕ) → Only (λ _. t) G v b → (guard t k >> q b) ≡ got v
  first_whole v b (only h g) = rw (h, S.whole v b g)

  first_back : (b : List ℕ) (v : Packet) → (guard t k >> q b) ≡ got v → Only (λ _. t) G v b
  first_back b = from_guard t k (q b) λ h v e. only h (S.back b v e)

  -- a test of the first byte alone
  fills_first : Fills (λ b. guard t k >> q b) (Only (λ _. t) G)
  fills_first = record { whole = first_whole; back = first_back }

fills_fields : (f : Layout) (x end : ℕ) → Fills (fields_fit as_bytes f x end) (Fields f x)
unfolding fields_fit message_fit
fills_fields a_publish x end =
    fills_first (not_three (flag_qos x)) _
    (fills_map (mk_publish x)
    (fills_then (reads_bytes end)
    (λ _. fills_then (reads_ident (flag_qos x))
    (λ _. fills_then (reads_publish_block end)
    (λ _. fills_string any_bytes Any cut any_fine end)))))
fills_fields (an_ack rs) x end = fills_map (mk_ack x) (fills_then (reads_big cut 2) (λ _. fills_rest ack_row rs end))
fills_fields a_subscribe x end =
    fills_map mk_subscribe
    (fills_then (reads_big cut 2)
    (λ _. fills_then (reads_props subscribe_row end)
    (λ _. fills_as fills_filters end)))
fills_fields (a_reply rs) x end =
    fills_map (mk_reply x)
    (fills_then (reads_big cut 2)
    (λ _. fills_then (reads_props ack_row end)
    (λ _. fills_as (fills_reasons rs) end)))
fills_fields an_unsubscribe x end =
    fills_map mk_unsubscribe
    (fills_then (reads_big cut 2)
    (λ _. fills_then (reads_props unsubscribe_row end)
    (λ _. fills_as fills_topics end)))
fills_fields a_ping x end = fills_map (mk_ping x) (fills_is any_bytes Any cut any_fine)

-- ---- the body

held : {G : Gram Packet} → Solid G → (v : Packet) (b : List ℕ) → G v b → not (is_empty b) ≡ true
held S v [] g = absurd (S v [] g refl)
held S v (y ∷ b) g = refl

-- a layout that is no ping has bytes
bytes_fine : (f : Layout) (x : ℕ) (v : Packet) (b : List ℕ) → Fields f x v b → (is_ping (some f) || not (is_empty b)) ≡ true
bytes_fine a_publish x v b g = held (solid_only (publish_good x) (solid_map (mk_publish x) (solid_then (solid_sized (big_solid 1))))) v b g
bytes_fine (an_ack rs) x v b g = held (solid_map (mk_ack x) (solid_then (big_solid 1))) v b g
bytes_fine a_subscribe x v b g = held (solid_map mk_subscribe (solid_then (big_solid 1))) v b g
bytes_fine (a_reply rs) x v b g = held (solid_map (mk_reply x) (solid_then (big_solid 1))) v b g
bytes_fine an_unsubscribe x v b g = held (solid_map mk_unsubscribe (solid_then (big_solid 1))) v b g
bytes_fine a_ping x v b g = refl

-- a kind that is carried is neither 0 nor 15
pub kind_fine : (k : ℕ) (f : Layout) → lookup kinds k ≡ some f → not (is_in k reserved) ≡ true
unfolding kinds
kind_fine k f e = first (eqb k 0) refl
  where
    second : (t : Bool) → eqb k 15 ≡ t → not (t || false) ≡ true
    second true h = let i : k ≡ 15 = eqb-true k 15 h in let z : none ≡ some f = rw i at e in cc
    second false h = refl

    first : (t : Bool) → eqb k 0 ≡ t → not (t || (eqb k 15 || false)) ≡ true
    first true h = let i : k ≡ 0 = eqb-true k 0 h in let z : none ≡ some f = rw i at e in cc
    first false h = second (eqb k 15) refl

module _ (x end : ℕ) where
  body_whole : (v : Packet) (b : List ℕ) → Body x v b → body_fit as_bytes x end b ≡ got v
  unfolding body_fit layout_fit
  body_whole v b (body {l = f} e g) = rw (kind_fine (kind_of x) f e, e, bytes_fine f x v b g, (fills_fields f x end).whole v b g)

  layout_back : (b : List ℕ) (o : Option Layout) → lookup kinds (kind_of x) ≡ o → (z : Packet) → layout_fit as_bytes o x end b ≡ got z → Body x z b
  unfolding layout_fit
  layout_back b none e z h = absurd (bad_got h)
  layout_back b (some f) e z h = body e ((fills_fields f x end).back b z h)

  body_back : (b : List ℕ) (z : Packet) → body_fit as_bytes x end b ≡ got z → Body x z b
  unfolding body_fit
  body_back b =
      from_guard (not (is_in (kind_of x) reserved)) _ _ λ _.
      from_guard (is_ping (lookup kinds (kind_of x)) || not (is_empty b)) _ _ λ _.
      layout_back b (lookup kinds (kind_of x)) refl

  pub fills_body : Fills (body_fit as_bytes x end) (Body x)
  fills_body = record { whole = body_whole; back = body_back }
