-- The answer with places, looked up in the stream, is the answer in bytes: a string is the part at its span, and the items of a list are
-- what is read again at its span. Assumes nothing.
use mathlib.Core.Path.{◌≡◌, refl, sym, ap, ◌∙◌}
use mathlib.Core.Bool.{Bool, true, false, not, ◌||◌, cond}
use mathlib.Core.Option.{Option, none, some}
use mathlib.Core.Logic.{◌↔◌}
use mathlib.Core.List.{List, [], ◌∷◌, ◌++◌, map, append_assoc}
use Prim.Native.Nat.{ℕ, ◌+◌, ◌-◌, ◌≤◌}
use native.Mathlib.Omega.{arith}
use lib.Dec.{eqb, leb, leb→le}
use lib.ListN.{length, length-append}
use borrow.Author.Tests.{le-leb}
use Rattle.grammar.specs.Choice.{is_in, lookup, is_empty}
use Rattle.grammar.specs.Gram.{Gram, both, sized, is}
use Rattle.grammar.specs.Number.{byte}
use Rattle.grammar.specs.Tables.{Form, u8, u16, u32, number, text, bytes, pair, Row, publish_row, subscribe_row, ack_row, unsubscribe_row, Layout, a_publish, an_ack, a_subscribe, a_reply, an_unsubscribe, a_ping, kinds, reserved, is_ping, listed, reasons_of, form_at}
use Rattle.grammar.specs.Record.{Val, num, str, PropOf, last_from, last_of, all_of, unless_empty, publish_props, props_of, Props, kind_of, flag_qos, mk_publish, mk_ack, mk_filter, mk_subscribe, mk_reply, mk_unsubscribe, mk_ping}
use Rattle.grammar.specs.Sentence.{Value, Prop, duo_of, not_zero, met, Properties, not_three, some_of, Packet, Frame}
use Rattle.reading.specs.Refusal.{Refusal, nr, Answer, accepted, refused, cut, crossed}
use Rattle.reading.specs.Reader.{Fit, got, bad, Filler, ◌>>◌, guard, only_of, is_fit}
use Rattle.reading.specs.Read.{big_of, byte_of, num_of, ident_of, is_text, any_bytes, as_bytes, reasons_fit, frame_of, body_answer, string_fit, bytes_of, text_of, value_of, value_at, property_of, once_of, properties_fit, block_of, publish_as, props_as, ack_block_fit, ack_rest_fit, filter_of, filters_fit, topics_fit, message_fit, fields_fit, layout_fit, body_fit, whole_answer, frame_answer, read_as, read_of}
use Rattle.reading.specs.Place.{Span, span_of, part_of, held_of, as_places, Placed, read_placed_of, no_item, or_no_item, again, values_at, on_got, on_some, if_some, say_val, say_prop, say_filter, say_publish_props, say_props, say, say_answer}
use Rattle.reading.proofs.Lists.{T_of}
use Rattle.reading.proofs.Reading.{bad_got, got_inj, from_got, from_guard, Fills}
use Rattle.reading.proofs.Fields.{reads_big, reads_num, reads_bytes, reads_text, reads_once, fills_properties}
use Rattle.reading.proofs.Packets.{reads_props, reads_ident, reads_filter, fills_filters, reads_publish_block, fills_reasons, fills_topics}
use Rattle.reading.proofs.Demand.{no_accept, reads_length, reads_frame}
use Rattle.reading.proofs.Forget.{Like, gots, bads, Via, Reading, Both, First, like_bind, like_guard, Stands, stands_rest, stands_within, stands_span, stands_held, Forgets, Drops, forgets_same, drops_same, forgets_map, drops_exact, forgets_then, drops_then, drops_chain, drops_many, forgets_head, drops_map, drops_only, drops_hand, forgets_sized}

-- ---- what is read at a place: just what fills it by the grammar, within the bytes

module _ {A : Type 0} {q : ℕ → Filler A} {G : Gram A} (S : (e : ℕ) → Fills (q e) G) (s : List ℕ) (p : Span) (v : A) where
  or_got : (m : Fit A) → or_no_item m ≡ got v → m ≡ got v
  or_got (got a) e = e
  or_got (bad k) e = absurd (bad_got e)

  fills_there : (t : Bool) → leb (p.start + p.len) (length s) ≡ t → (guard t no_item >> or_no_item (q (p.start + p.len) (part_of s p))) ≡ got v → (p.start + p.len ≤ length s) × G v (part_of s p)
  fills_there true h e =
      (leb→le (p.start + p.len) (length s) (T_of (leb (p.start + p.len) (length s)) h), (S (p.start + p.len)).back (part_of s p) v (or_got (q (p.start + p.len) (part_of s p)) e))
  fills_there false h e = absurd (bad_got e)

  -- the place lies within the bytes, and v fills it
  pub again_iff : (again q s p ≡ got v) ↔ ((p.start + p.len ≤ length s) × G v (part_of s p))
  unfolding again
  again_iff = (
    fills_there (leb (p.start + p.len) (length s)) refl,
    λ t. rw (le-leb (p.start + p.len) (length s) t.0, (S (p.start + p.len)).whole v (part_of s p) t.1),
  )

pub block_iff : (row : Row) (s : List ℕ) (p : Span) (ps : List Prop) → (again (properties_fit as_bytes row) s p ≡ got ps) ↔ ((p.start + p.len ≤ length s) × Properties row ps (part_of s p))
block_iff row s p ps = again_iff (fills_properties row) s p ps

-- so where it was read once
again_right : {s : List ℕ} {end : ℕ} {A : Type 0} {q : ℕ → Filler A} {G : Gram A} → ((e : ℕ) → Fills (q e) G) → (b : List ℕ) (v : A) → Stands s end b → q end b ≡ got v → again q s (span_of b end) ≡ got v
again_right {s} {end} S b v w e =
    let (h, i) = stands_within b w in
    (again_iff S s (span_of b end) v).1 (omega arith, rw (stands_span b w) ((S end).back b v e))

values_right : {s : List ℕ} {end : ℕ} (row : Row) (i : ℕ) (b : List ℕ) (ps : List Prop) → Stands s end b → properties_fit as_bytes row end b ≡ got ps
    → values_at as_bytes s (span_of b end) row i ≡ got (all_of i ps)
unfolding values_at
values_right row i b ps w e = rw (again_right (fills_properties row) b ps w e)

-- ---- single values

module _ (s : List ℕ) where
  last_from_lem : (i : ℕ) (o : Option (Val Span)) (ps : List (PropOf Span)) → on_some (say_val s) (last_from o i ps) ≡ last_from (on_some (say_val s) o) i (map (say_prop s) ps)
  last_from_lem i o [] = refl
  last_from_lem i o (p ∷ ps) =
      last_from_lem i (cond (eqb p.0 i) (some p.1) o) ps
      ∙ ap (λ (o' : Option Value). last_from o' i (map (say_prop s) ps)) (one (eqb p.0 i))
    where
      one : (t : Bool) → on_some (say_val s) (cond t (some p.1) o) ≡ cond t (some (say_val s p.1)) (on_some (say_val s) o)
      one true = refl
      one false = refl

  last_says : (i : ℕ) (ps : List (PropOf Span)) → on_some (say_val s) (last_of i ps) ≡ last_of i (map (say_prop s) ps)
  unfolding last_of
  last_says i ps = last_from_lem i none ps

  unless_says : {A B : Type 0} (g : A → Fit B) (f : List (PropOf Span) → A) (f' : List Prop → B) (ps : List (PropOf Span)) → g (f ps) ≡ got (f' (map (say_prop s) ps))
      → if_some g (unless_empty f ps) ≡ got (unless_empty f' (map (say_prop s) ps))
  unless_says g f f' [] e = refl
  unless_says g f f' (p ∷ ps) e = ap (on_got some) e

  -- ---- each reader, with places and with bytes

  is_same : (t : List ℕ → Bool) (c : Refusal) (b a : List ℕ) → is_fit t c b ≡ got a → b ≡ a
  unfolding is_fit
  is_same t c b = from_guard (t b) c (got b) λ _. from_got (λ a. b ≡ a) b refl

  string_says : (t : List ℕ → Bool) (c : Refusal) (end : ℕ) → Drops s end (Via (held_of s)) (string_fit as_places t c end) (string_fit as_bytes t c end)
  unfolding string_fit
  string_says t c end =
      drops_hand (λ e. drops_same (is_fit t c)) end (Via (held_of s)) _ _ λ a a' b w e r.
      let i : b ≡ a = is_same t c b a' e ∙ sym r in
      rw (← i) (stands_held b w ∙ is_same t c b a' e)

  bytes_says : (end : ℕ) → Forgets s end (Via (held_of s)) (bytes_of as_places end) (bytes_of as_bytes end)
  unfolding bytes_of
  bytes_says end = forgets_sized (string_says any_bytes cut) end crossed (reads_big cut 2)

  pub text_says : (end : ℕ) → Forgets s end (Via (held_of s)) (text_of as_places end) (text_of as_bytes end)
  unfolding text_of
  text_says end = forgets_sized (string_says is_text (nr 9 [])) end crossed (reads_big cut 2)

  value_says : (k : Form) (end : ℕ) → Forgets s end (Via (say_val s)) (value_of as_places k end) (value_of as_bytes k end)
  unfolding value_of
  value_says u8 end = forgets_map (forgets_same (byte_of cut)) num num (λ a b r. ap num r)
  value_says u16 end = forgets_map (forgets_same (big_of cut 2)) num num (λ a b r. ap num r)
  value_says u32 end = forgets_map (forgets_same (big_of cut 4)) num num (λ a b r. ap num r)
  value_says number end = forgets_map (forgets_same (only_of not_zero (λ _. nr 23 []) (num_of cut 4))) num num (λ a b r. ap num r)
  value_says text end = forgets_map (text_says end) str str (λ a b r. ap str r)
  value_says bytes end = forgets_map (bytes_says end) str str (λ a b r. ap str r)
  value_says pair end = forgets_map (forgets_then (text_says end) (reads_text end) (text_says end)) duo_of duo_of (λ a b r. rw (r.0, r.1))

  form_like : (o : Option Form) (i end : ℕ) (l : List ℕ) → Stands s end l → Like (First (Via (say_prop s))) (value_at as_places o i end l) (value_at as_bytes o i end l)
  unfolding value_at
  form_like none i end l w = bads
  form_like (some k) i end l w = like_bind (value_of as_places k end l) (value_of as_bytes k end l) _ _ ((value_says k end).like l w) λ x y _ _ r.
      gots (ap (λ (v : Value). (i, v)) r.0, r.1)

  property_like : (row : Row) (end : ℕ) (l : List ℕ) → Stands s end l → Like (First (Via (say_prop s))) (property_of as_places row end l) (property_of as_bytes row end l)
  unfolding property_of
  property_like row end [] w = bads
  property_like row end (i ∷ l) w = form_like (form_at row i) i end l (stands_rest (i ∷ l) (i ∷ []) l refl w)

  pub property_says : (row : Row) (end : ℕ) → Forgets s end (Via (say_prop s)) (property_of as_places row end) (property_of as_bytes row end)
  property_says row end = record { like = property_like row end }

  pub once_says : (row : Row) (end : ℕ) (σ : List ℕ) → Forgets s end (Via (say_prop s)) (once_of as_places row end σ) (once_of as_bytes row end σ)
  unfolding once_of
  once_says row end σ = forgets_head (property_says row end) (λ i. not (is_in i σ)) (λ i. nr 22 (i ∷ []))

  pub properties_says : (row : Row) (end : ℕ) → Drops s end (Via (map (say_prop s))) (properties_fit as_places row end) (properties_fit as_bytes row end)
  unfolding properties_fit
  properties_says row end = drops_chain (met row) (met row) (λ _ _. refl) (once_says row end) (reads_once row end) []

  -- what a block reader hands back, read at its places, is what it hands back in bytes
  block_says : {A B : Type 0} (row : Row) (f : List (PropOf Span) → List ℕ → ℕ → A) (f' : List Prop → List ℕ → ℕ → B) (h : A → Fit B)
      → ((end : ℕ) (ps : List (PropOf Span)) (b : List ℕ) → Stands s end b → properties_fit as_bytes row end b ≡ got (map (say_prop s) ps) → h (f ps b end) ≡ got (f' (map (say_prop s) ps) b end))
      → (end : ℕ) → Forgets s end (Reading h) (block_of as_places row f end) (block_of as_bytes row f' end)
  unfolding block_of
  block_says {B = B} row f f' h e end = forgets_sized (λ e'. drops_hand (properties_says row) e' (Reading h) f f' λ ps qs b w i r.
      e e' ps b w (i ∙ ap got (sym r)) ∙ ap (λ (l : List Prop). got (f' l b e')) r) end crossed (reads_num cut 4)

  publish_as_lem : (end : ℕ) (ps : List (PropOf Span)) (b : List ℕ) → Stands s end b → properties_fit as_bytes publish_row end b ≡ got (map (say_prop s) ps)
      → if_some (say_publish_props s) (publish_as as_places ps b end) ≡ got (publish_as as_bytes (map (say_prop s) ps) b end)
  unfolding publish_props
  publish_as_lem end ps b w e =
      let v : (i : ℕ) → values_at as_bytes s (span_of b end) publish_row i ≡ got (all_of i (map (say_prop s) ps)) = λ i. values_right publish_row i b (map (say_prop s) ps) w e in
      unless_says (say_publish_props s) (publish_props Span (λ A. Span) (λ vs. as_places.run (Val Span) vs b end)) (publish_props (List ℕ) List (λ vs. as_bytes.run (Val (List ℕ)) vs b end)) ps (rw (v 38, v 11, last_says 1 ps, last_says 2 ps, last_says 35 ps, last_says 8 ps, last_says 9 ps, last_says 3 ps))

  props_as_lem : (row : Row) (end : ℕ) (ps : List (PropOf Span)) (b : List ℕ) → Stands s end b → properties_fit as_bytes row end b ≡ got (map (say_prop s) ps)
      → if_some (say_props s row) (props_as as_places ps b end) ≡ got (props_as as_bytes (map (say_prop s) ps) b end)
  unfolding props_of
  props_as_lem row end ps b w e = unless_says (say_props s row) (props_of Span (λ A. Span) (λ vs. as_places.run (Val Span) vs b end)) (props_of (List ℕ) List (λ vs. as_bytes.run (Val (List ℕ)) vs b end)) ps (rw (values_right row 38 b (map (say_prop s) ps) w e, last_says 31 ps, last_says 11 ps))

  props_says : (row : Row) (end : ℕ) → Forgets s end (Reading (if_some (say_props s row))) (block_of as_places row (props_as as_places) end) (block_of as_bytes row (props_as as_bytes) end)
  props_says row = block_says row (props_as as_places) (props_as as_bytes) (if_some (say_props s row)) (props_as_lem row)

  pub filter_says : (end : ℕ) → Forgets s end (Via (say_filter s)) (filter_of as_places end) (filter_of as_bytes end)
  unfolding filter_of
  filter_says end = forgets_map (forgets_then (text_says end) (reads_text end) (forgets_same _)) mk_filter mk_filter (λ a b r. rw (r.0, r.1))

  some_says : {A B : Type 0} (g : A → B) (fs : List A) (gs : List B) → map g fs ≡ gs → some_of fs ≡ some_of gs
  some_says g [] gs e = rw (← e)
  some_says g (f ∷ fs) gs e = rw (← e)

  pub filters_says : (end : ℕ) → Drops s end (Via (map (say_filter s))) (filters_fit as_places end) (filters_fit as_bytes end)
  unfolding filters_fit
  filters_says end = drops_only (drops_many (filter_says end) (reads_filter end)) some_of some_of (nr 13 []) (some_says (say_filter s))

  pub topics_says : (end : ℕ) → Drops s end (Via (map (held_of s))) (topics_fit as_places end) (topics_fit as_bytes end)
  unfolding topics_fit
  topics_says end = drops_only (drops_many (text_says end) (reads_text end)) some_of some_of (nr 13 []) (some_says (held_of s))

  -- ---- acknowledgements

  -- a reason, and a block
  abbrev Rest : Row → ℕ × Option (Props Span (λ A. Span)) → ℕ × Option (Props (List ℕ) List) → Type 0
  Rest row = Both (Via (λ c. c)) (Reading (if_some (say_props s row)))

  block_like : (row : Row) (end : ℕ) (l : List ℕ) → Stands s end l → Like (Reading (if_some (say_props s row))) (ack_block_fit as_places row end l) (ack_block_fit as_bytes row end l)
  unfolding ack_block_fit
  block_like row end [] w = gots refl
  block_like row end (x ∷ r) w = (drops_exact (props_says row end) cut).like (x ∷ r) w

  rest_like : (row : Row) (rs : List ℕ) (end : ℕ) (l : List ℕ) → Stands s end l → Like (Rest row) (ack_rest_fit as_places row rs end l) (ack_rest_fit as_bytes row rs end l)
  unfolding ack_rest_fit
  rest_like row rs end [] w = gots (refl, refl)
  rest_like row rs end (c ∷ r) w =
      like_guard (is_in c rs) (nr 15 (c ∷ [])) _ _ λ _.
      like_bind (ack_block_fit as_places row end r) (ack_block_fit as_bytes row end r) _ _ (block_like row end r (stands_rest (c ∷ r) (c ∷ []) r refl w)) λ ps qs _ _ h.
      gots (refl, h)

  rest_says : (row : Row) (rs : List ℕ) (end : ℕ) → Drops s end (Rest row) (ack_rest_fit as_places row rs end) (ack_rest_fit as_bytes row rs end)
  rest_says row rs end = record { like = rest_like row rs end }

  -- ---- every layout

  message_says : (x end : ℕ) → Drops s end (Reading (say s)) (message_fit as_places x end) (message_fit as_bytes x end)
  unfolding message_fit
  message_says x end =
      drops_map
      (drops_then (bytes_says end) (reads_bytes end)
      (drops_then (forgets_same (ident_of (flag_qos x))) (reads_ident (flag_qos x))
      (drops_then (block_says publish_row (publish_as as_places) (publish_as as_bytes) (if_some (say_publish_props s)) publish_as_lem end) (reads_publish_block end)
      (string_says any_bytes cut end))))
      (mk_publish x) (mk_publish x) (λ a b r. rw (r.1.1.0, r.0, r.1.0, r.1.1.1))

  -- a kind's reasons are those of its layout
  kind_lists : (k : ℕ) (f : Layout) → lookup kinds k ≡ some f → reasons_of k ≡ listed (some f)
  unfolding reasons_of
  kind_lists k f e = ap listed e

  fields_like : (f : Layout) (x end : ℕ) → lookup kinds (kind_of x) ≡ some f → (l : List ℕ) → Stands s end l → Like (Reading (say s)) (fields_fit as_places f x end l) (fields_fit as_bytes f x end l)
  unfolding fields_fit
  fields_like a_publish x end q l w =
      like_guard (not_three (flag_qos x)) (nr 11 (3 ∷ [])) (message_fit as_places x end l) (message_fit as_bytes x end l) λ _. (message_says x end).like l w
  fields_like (an_ack rs) x end q l w =
      (drops_map (drops_then (forgets_same (big_of cut 2)) (reads_big cut 2) (rest_says ack_row rs end)) {Q = Reading (say s)} (mk_ack x) (mk_ack x) (λ a b r. rw (r.1.1, r.0, r.1.0))).like l w
  fields_like a_subscribe x end q l w =
      (drops_map
      (drops_then (forgets_same (big_of cut 2)) (reads_big cut 2)
      (drops_then (props_says subscribe_row end) (reads_props subscribe_row end)
      (drops_hand filters_says end (Reading (again (filters_fit as_bytes) s)) _ _ (λ fs gs b w' e r. again_right fills_filters b gs w' e))))
      {Q = Reading (say s)} mk_subscribe mk_subscribe (λ a b r. rw (r.1.0, r.1.1, r.0))).like l w
  fields_like (a_reply rs) x end q l w =
      (drops_map
      (drops_then (forgets_same (big_of cut 2)) (reads_big cut 2)
      (drops_then (props_says ack_row end) (reads_props ack_row end)
      (drops_hand (λ e. drops_same (reasons_fit rs e)) end (Reading (again (reasons_fit rs) s)) _ _ (λ cs ds b w' e r. again_right (fills_reasons rs) b ds w' e))))
      {Q = Reading (say s)} (mk_reply x) (mk_reply x) (λ a b r. rw (kind_lists (kind_of x) (a_reply rs) q, r.1.0, r.1.1, r.0))).like l w
  fields_like an_unsubscribe x end q l w =
      (drops_map
      (drops_then (forgets_same (big_of cut 2)) (reads_big cut 2)
      (drops_then (props_says unsubscribe_row end) (reads_props unsubscribe_row end)
      (drops_hand topics_says end (Reading (again (topics_fit as_bytes) s)) _ _ (λ ts us b w' e r. again_right fills_topics b us w' e))))
      {Q = Reading (say s)} mk_unsubscribe mk_unsubscribe (λ a b r. rw (r.1.0, r.1.1, r.0))).like l w
  fields_like a_ping x end q l w = (drops_map (drops_same (is_fit any_bytes cut)) {Q = Reading (say s)} (mk_ping x) (mk_ping x) (λ a b r. refl)).like l w

  layout_like : (o : Option Layout) (x end : ℕ) → lookup kinds (kind_of x) ≡ o → (l : List ℕ) → Stands s end l → Like (Reading (say s)) (layout_fit as_places o x end l) (layout_fit as_bytes o x end l)
  unfolding layout_fit
  layout_like none x end q l w = bads
  layout_like (some f) x end q l w = fields_like f x end q l w

  body_like : (x end : ℕ) (l : List ℕ) → Stands s end l → Like (Reading (say s)) (body_fit as_places x end l) (body_fit as_bytes x end l)
  unfolding body_fit
  body_like x end l w =
      like_guard (not (is_in (kind_of x) reserved)) (nr 4 (kind_of x ∷ [])) _ _ λ _.
      like_guard (is_ping (lookup kinds (kind_of x)) || not (is_empty l)) (nr 5 []) _ _ λ _.
      layout_like (lookup kinds (kind_of x)) x end refl l w

  answer_like : (n : ℕ) (m : Fit Placed) (m' : Fit Packet) → Like (Reading (say s)) m m' → say_answer s (body_answer n m) ≡ got (body_answer n m')
  unfolding body_answer
  answer_like n _ _ (gots e) = ap (on_got (λ (v : Packet). accepted v n)) e
  answer_like n _ _ (bads {k = nr k vs}) = refl

-- ---- the whole answer

-- where a frame's body stands
body_stands : {N : Gram ℕ} (s c r : List ℕ) (z : ℕ × List ℕ) → Frame N z c → s ≡ c ++ r → Stands s (length s - length r) z.1
body_stands s _ r _ (both {a = x} byte (sized {b = b} {c = c} n (is _))) e =
    let e' : s ≡ (x ∷ c) ++ (b ++ r) = e ∙ rw (append_assoc c b r) in
    record { before = x ∷ c; after = r; whole = e'; stop = omega (arith, ap length e', length-append c (b ++ r), length-append b r) }

module _ (limit : Option ℕ) (s : List ℕ) where
  frame_says : (m : Fit ((ℕ × List ℕ) × List ℕ)) → frame_of limit (length s) s ≡ m → say_answer s (frame_answer as_places s m) ≡ got (frame_answer as_bytes s m)
  unfolding frame_answer whole_answer
  frame_says (bad (nr k vs)) e = refl
  frame_says (got z) e =
      let n : ℕ = length s - length z.1 in
      let (c, e₁, f) = (reads_frame limit (reads_length limit) (length s)).split s z e in
      answer_like s n (body_fit as_places z.0.0 n z.0.1) (body_fit as_bytes z.0.0 n z.0.1) (body_like s z.0.0 n z.0.1 (body_stands s c z.1 z.0 f e₁))

  -- the answer with places says what the answer in bytes says: refusals and counts are the same, every list is read again at its place, and
  -- what the places hold is the record
  pub placed_says : say_answer s (read_placed_of limit s) ≡ got (read_of limit s)
  unfolding read_as
  placed_says = frame_says (frame_of limit (length s) s) refl

  -- so a refusal with places is the refusal in bytes, with the same values and the same bytes taken
  pub placed_refused : (k : ℕ) (vs : List ℕ) (t : ℕ) → (read_placed_of limit s ≡ refused k vs t) ↔ (read_of limit s ≡ refused k vs t)
  placed_refused k vs t = (λ e. got_inj (sym placed_says ∙ ap (say_answer s) e), λ e. go (read_placed_of limit s) (placed_says ∙ ap got e))
    where
      no_record : (v : Placed) (n : ℕ) (m : Fit Packet) → on_got (λ (w : Packet). accepted w n) m ≡ got (refused k vs t) → ⊥
      no_record v n (got w) e = no_accept (got_inj (sym e))
      no_record v n (bad c) e = bad_got e

      go : (a : Answer Placed) → say_answer s a ≡ got (refused k vs t) → a ≡ refused k vs t
      go (accepted v n) e = absurd (no_record v n (say s v) e)
      go (refused k' vs' n) e = cc

  -- and a record with places says the record in bytes, with the same bytes taken
  pub placed_accepted : (v : Placed) (n : ℕ) → read_placed_of limit s ≡ accepted v n → (w : Packet) × (say s v ≡ got w) × (read_of limit s ≡ accepted w n)
  placed_accepted v n e = go (say s v) refl
    where
      go : (m : Fit Packet) → say s v ≡ m → (w : Packet) × (say s v ≡ got w) × (read_of limit s ≡ accepted w n)
      go (got w) i = (w, i, got_inj (sym placed_says ∙ ap (say_answer s) e ∙ ap (on_got (λ (u : Packet). accepted u n)) i))
      go (bad k) i = absurd (bad_got (sym (ap (on_got (λ (u : Packet). accepted u n)) i) ∙ sym (ap (say_answer s) e) ∙ placed_says))

  -- and back: a record in bytes has its record with places
  pub placed_of : (w : Packet) (n : ℕ) → read_of limit s ≡ accepted w n → (v : Placed) × (read_placed_of limit s ≡ accepted v n) × (say s v ≡ got w)
  placed_of w n e = go (read_placed_of limit s) refl
    where
      said : (v : Placed) (m : ℕ) (u : Fit Packet) → on_got (λ (x : Packet). accepted x m) u ≡ got (accepted w n) → (m ≡ n) × (u ≡ got w)
      said v m (got x) i = (cc, cc)
      said v m (bad k) i = absurd (bad_got i)

      go : (a : Answer Placed) → read_placed_of limit s ≡ a → (v : Placed) × (read_placed_of limit s ≡ accepted v n) × (say s v ≡ got w)
      go (accepted v m) i = let (j, q) = said v m (say s v) (sym (ap (say_answer s) i) ∙ placed_says ∙ ap got e) in (v, i ∙ ap (accepted v) j, q)
      go (refused k vs m) i = absurd (no_accept (got_inj (sym (ap (say_answer s) i) ∙ placed_says ∙ ap got e)))
