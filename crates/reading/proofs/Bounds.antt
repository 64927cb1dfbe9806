-- The two numbers of 02's P7 are told by the record that is read and by the bytes it takes: a block that is read says where it stands. Assumes nothing.
use mathlib.Core.Path.{◌≡◌, refl, sym, ap, ◌∙◌}
use mathlib.Core.Bool.{not, ◌||◌}
use mathlib.Core.Option.{Option, none, some}
use mathlib.Core.List.{List, [], ◌∷◌}
use Prim.Native.Nat.{ℕ, ◌-◌, ◌≤◌}
use native.Mathlib.Omega.{arith}
use lib.Dec.{leb, leb→le}
use lib.ListN.{length, take, drop, length-drop}
use lib.Seq.{length-take-le}
use Rattle.grammar.specs.Choice.{lookup, is_in, is_empty}
use Rattle.grammar.specs.Record.{PropOf, publish_props, Props, props_of, unless_empty, mk_publish, mk_ack, mk_subscribe, mk_reply, mk_unsubscribe, mk_ping, flag_qos, kind_of}
use Rattle.grammar.specs.Tables.{Row, Layout, a_publish, an_ack, a_subscribe, a_reply, an_unsubscribe, a_ping, kinds, publish_row, subscribe_row, ack_row, unsubscribe_row, reserved, is_ping}
use Rattle.grammar.specs.Sentence.{met, not_three}
use Rattle.reading.specs.Refusal.{cut, nr, Answer, accepted, refused}
use Rattle.reading.specs.Reader.{Fit, got, bad, Filler, Reader, ◌>>=◌, run_fit, chain_fit, hand_fit, sized_of, then_fit, map_fit, exact_fit, is_fit}
use Rattle.reading.specs.Read.{big_of, num_of, ident_of, bytes_of, block_of, once_of, properties_fit, props_as, string_fit, any_bytes, message_fit, fields_fit, layout_fit, body_fit, body_answer, whole_answer, frame_answer, frame_of, read_as, ack_block_fit, ack_rest_fit, filters_fit, reasons_fit, topics_fit}
use Rattle.reading.specs.Place.{Span, span_of, as_places, Placed, read_placed_of}
use Rattle.reading.specs.Bounds.{after_length, ack_bounds, after_identifier, field_bounds, kind_bounds, frame_bounds, if_accepted, bounds_of, ending_at, bounds_in, bounds_by}
use Rattle.reading.proofs.Lists.{T_of, nil_of}
use Rattle.reading.proofs.Reading.{bad_got, got_inj, from_got, from_bind, from_guard}

no_nil : {A : Type 0} {a : A} {l : List A} → a ∷ l ≡ [] → ⊥
no_nil e = let z : ◌≡◌ {A = ℕ} 1 0 = cc in omega arith

pair_is : {a b c d : ℕ} → a ≡ c → b ≡ d → ◌≡◌ {A = ℕ × ℕ} (a, b) (c, d)
pair_is p q = rw (p, q)

-- ---- the block

-- properties that come to none fill no bytes
none_empty : (row : Row) (end : ℕ) (b : List ℕ) → properties_fit as_places row end b ≡ got [] → b ≡ []
unfolding properties_fit chain_fit run_fit
none_empty row end [] e = refl
none_empty row end (x ∷ b) e =
    absurd (from_bind {C = λ (ws : List (PropOf Span)). ws ≡ [] → ⊥} (once_of as_places row end [] (x ∷ b)) _
    (λ z _. from_bind {C = λ (ws : List (PropOf Span)). ws ≡ [] → ⊥} (run_fit (met row) (once_of as_places row end) (met row [] z.0) b z.1) _
    (λ vs _. from_got (λ (ws : List (PropOf Span)). ws ≡ [] → ⊥) (z.0 ∷ vs) no_nil)) [] e refl)

-- a block of a row, whose record says where it stands
module _ {X : Type 0} (row : Row) (g : List ℕ → ℕ → List (PropOf Span) → X) (user : X → Span) (u : (b : List ℕ) (e : ℕ) (ps : List (PropOf Span)) → user (g b e ps) ≡ span_of b e) (end : ℕ) where
  abbrev block_as : List (PropOf Span) → List ℕ → ℕ → Option X
  block_as ps b e = unless_empty (g b e) ps

  -- of L = l and what follows it
  held_bounds : (l : ℕ) (r : List ℕ) → l ≤ length r → (ps : List (PropOf Span)) → properties_fit as_places row (end - length (drop l r)) (take l r) ≡ got ps
      → (end - length r, end - length (drop l r)) ≡ ending_at user (end - length (drop l r)) (block_as ps (take l r) (end - length (drop l r)))
  held_bounds l r h [] e =
      let n : length (take l r) ≡ l = length-take-le l r h in
      let z : length (take l r) ≡ 0 = ap length (none_empty row (end - length (drop l r)) (take l r) e) in
      pair_is (omega (arith, n, z, length-drop l r)) refl
  held_bounds l r h (p ∷ ps) e =
      let n : length (take l r) ≡ l = length-take-le l r h in
      let s : end - length r ≡ end - length (drop l r) - length (take l r) = omega (arith, n, length-drop l r) in
      pair_is (s ∙ ap (λ (q : Span). q.start) (sym (u (take l r) (end - length (drop l r)) (p ∷ ps)))) refl

  -- 02, P7: "after the block's length": where a block is read, its record says where the properties stand
  block_bounds : (r : List ℕ) (z : Option X × List ℕ) → block_of as_places row block_as end r ≡ got z → after_length end r ≡ got (ending_at user (end - length z.1) z.0)
  unfolding block_of sized_of hand_fit
  block_bounds r =
      from_bind (num_of cut 4 r) _ λ lq e.
      from_guard (leb lq.0 (length lq.1)) _ _ λ h.
      from_bind {C = λ (z : Option X × List ℕ). after_length end r ≡ got (ending_at user (end - length z.1) z.0)}
      (properties_fit as_places row (end - length (drop lq.0 lq.1)) (take lq.0 lq.1) >>= λ ps. got (block_as ps (take lq.0 lq.1) (end - length (drop lq.0 lq.1)))) _
      (λ o f. from_got (λ (z : Option X × List ℕ). after_length end r ≡ got (ending_at user (end - length z.1) z.0)) (o, drop lq.0 lq.1)
      (rw e (from_bind {C = λ (y : Option X). got (end - length lq.1, end - length (drop lq.0 lq.1)) ≡ got (ending_at user (end - length (drop lq.0 lq.1)) y)}
      (properties_fit as_places row (end - length (drop lq.0 lq.1)) (take lq.0 lq.1)) _
      (λ ps j. from_got (λ (y : Option X). got (end - length lq.1, end - length (drop lq.0 lq.1)) ≡ got (ending_at user (end - length (drop lq.0 lq.1)) y)) _
      (ap got (held_bounds lq.0 lq.1 (leb→le lq.0 (length lq.1) (T_of (leb lq.0 (length lq.1)) h)) ps j))) o f)))

  -- and so where the rest is handed back as a place that begins behind it
  tail_bounds : (q : Filler Span) → ((r : List ℕ) (p : Span) → q r ≡ got p → end - length r ≡ p.start) → (r : List ℕ) (z : Option X × Span)
      → then_fit (block_of as_places row block_as end) (λ _. q) r ≡ got z → after_length end r ≡ got (ending_at user z.1.start z.0)
  unfolding then_fit
  tail_bounds q s r =
      from_bind (block_of as_places row block_as end r) _ λ oq e.
      from_bind (q oq.1) _ λ p f.
      from_got (λ (z : Option X × Span). after_length end r ≡ got (ending_at user z.1.start z.0)) (oq.0, p)
      (block_bounds r oq e ∙ ap (λ (m : ℕ). got (ending_at user m oq.0)) (s oq.1 p f))

-- ---- a field before it

then_bounds : {A B : Type 0} (p : Reader A) (q : A → Filler B) (k : List ℕ → Fit (ℕ × ℕ)) (g : B → ℕ × ℕ) → ((a : A) (r : List ℕ) (c : B) → q a r ≡ got c → k r ≡ got (g c))
    → (s : List ℕ) (z : A × B) → then_fit p q s ≡ got z → (p s >>= λ ar. k ar.1) ≡ got (g z.1)
unfolding then_fit
then_bounds {A = A} {B = B} p q k g h s =
    from_bind (p s) _ λ ar e.
    from_bind (q ar.0 ar.1) _ λ c f.
    from_got (λ (z : A × B). (p s >>= λ br. k br.1) ≡ got (g z.1)) (ar.0, c) (rw e (h ar.0 ar.1 c f))

-- ---- what follows it

payload_start : (end : ℕ) (r : List ℕ) (p : Span) → string_fit as_places any_bytes cut end r ≡ got p → end - length r ≡ p.start
unfolding string_fit hand_fit is_fit
payload_start end r p e = ap (λ (x : Span). x.start) (got_inj e)

-- a run of entries
run_start : {A : Type 0} (q : ℕ → Filler A) (end : ℕ) (r : List ℕ) (p : Span) → hand_fit (λ vs b e. span_of b e) q end r ≡ got p → end - length r ≡ p.start
unfolding hand_fit
run_start q end r = from_bind {C = λ (p : Span). end - length r ≡ p.start} (q end r) _ λ fs _. from_got (λ (p : Span). end - length r ≡ p.start) (span_of r end) refl

-- ---- each layout

module _ (end : ℕ) where
  at_end : (q : List ℕ) → q ≡ [] → end - length q ≡ end
  at_end q h = omega (arith, ap length h)

  -- the block of any place but a Publish's
  plain_block_lem : (row : Row) (r : List ℕ) (z : Option (Props Span (λ A. Span)) × List ℕ) → block_of as_places row (props_as as_places) end r ≡ got z
      → after_length end r ≡ got (ending_at (λ ps. ps.user) (end - length z.1) z.0)
  unfolding props_of
  plain_block_lem row = block_bounds row (λ b e ps. props_of Span (λ A. Span) (λ vs. span_of b e) ps) (λ ps. ps.user) (λ b e ps. refl) end

  ack_rest : (row : Row) (rs r : List ℕ) (z : ℕ × Option (Props Span (λ A. Span))) → ack_rest_fit as_places row rs end r ≡ got z → ack_bounds end r ≡ got (ending_at (λ ps. ps.user) end z.1)
  unfolding ack_rest_fit ack_block_fit exact_fit
  ack_rest row rs [] = from_got (λ (z : ℕ × Option (Props Span (λ A. Span))). got (end, end) ≡ got (ending_at (λ ps. ps.user) end z.1)) (0, none) refl
  ack_rest row rs (c ∷ []) = from_guard (is_in c rs) _ _ λ _. from_got (λ (z : ℕ × Option (Props Span (λ A. Span))). got (end, end) ≡ got (ending_at (λ ps. ps.user) end z.1)) (c, none) refl
  ack_rest row rs (c ∷ x ∷ r) =
      from_guard (is_in c rs) _ _ λ _.
      from_bind {C = λ (z : ℕ × Option (Props Span (λ A. Span))). after_length end (x ∷ r) ≡ got (ending_at (λ ps. ps.user) end z.1)} (exact_fit (block_of as_places row (props_as as_places) end) cut (x ∷ r)) _ λ o e.
      from_got (λ (z : ℕ × Option (Props Span (λ A. Span))). after_length end (x ∷ r) ≡ got (ending_at (λ ps. ps.user) end z.1)) (c, o)
      (from_bind {C = λ (y : Option (Props Span (λ A. Span))). after_length end (x ∷ r) ≡ got (ending_at (λ ps. ps.user) end y)} (block_of as_places row (props_as as_places) end (x ∷ r)) _ (λ oq f.
      from_guard (is_empty oq.1) _ _ λ h.
      from_got (λ (y : Option (Props Span (λ A. Span))). after_length end (x ∷ r) ≡ got (ending_at (λ ps. ps.user) end y)) oq.0
      (plain_block_lem row (x ∷ r) oq f ∙ ap (λ (m : ℕ). got (ending_at (λ (ps : Props Span (λ A. Span)). ps.user) m oq.0)) (at_end oq.1 (nil_of oq.1 h)))) o e)

  -- an identifier, a block, entries to the end
  entries_bounds : {A : Type 0} (row : Row) (q : ℕ → Filler A) (b : List ℕ) (z : ℕ × (Option (Props Span (λ A. Span)) × Span))
      → then_fit (big_of cut 2) (λ _. then_fit (block_of as_places row (props_as as_places) end) (λ _. hand_fit (λ vs b e. span_of b e) q end)) b ≡ got z
      → after_identifier end b ≡ got (ending_at (λ ps. ps.user) z.1.1.start z.1.0)
  unfolding props_of
  entries_bounds row q =
      then_bounds (big_of cut 2) _ (after_length end) (λ c. ending_at (λ ps. ps.user) c.1.start c.0)
      (λ _. tail_bounds row (λ b e ps. props_of Span (λ A. Span) (λ vs. span_of b e) ps) (λ ps. ps.user) (λ b e ps. refl) end (hand_fit (λ vs b e. span_of b e) q end) (run_start q end))

  -- 02, P7, of a body that is read
  fields_bounds : (l : Layout) (x : ℕ) (b : List ℕ) (v : Placed) → fields_fit as_places l x end b ≡ got v → field_bounds l x end b ≡ got (bounds_in v end)
  unfolding fields_fit message_fit map_fit field_bounds publish_props
  fields_bounds a_publish x b =
      from_guard (not_three (flag_qos x)) _ _ λ _.
      from_bind {C = λ (v : Placed). field_bounds a_publish x end b ≡ got (bounds_in v end)} _ _ λ z e.
      from_got (λ (v : Placed). field_bounds a_publish x end b ≡ got (bounds_in v end)) (mk_publish x z)
      (then_bounds (bytes_of as_places end) _ (λ r. ident_of (flag_qos x) r >>= λ iq. after_length end iq.1) (λ c. ending_at (λ ps. ps.user) c.1.1.start c.1.0)
      (λ _. then_bounds (ident_of (flag_qos x)) _ (after_length end) (λ c. ending_at (λ ps. ps.user) c.1.start c.0)
      (λ _. tail_bounds publish_row (λ b e ps. publish_props Span (λ A. Span) (λ vs. span_of b e) ps) (λ ps. ps.user) (λ b e ps. refl) end (string_fit as_places any_bytes cut end) (payload_start end))) b z e)
  fields_bounds (an_ack rs) x b =
      from_bind {C = λ (v : Placed). field_bounds (an_ack rs) x end b ≡ got (bounds_in v end)} _ _ λ z e.
      from_got (λ (v : Placed). field_bounds (an_ack rs) x end b ≡ got (bounds_in v end)) (mk_ack x z)
      (then_bounds (big_of cut 2) _ (ack_bounds end) (λ c. ending_at (λ ps. ps.user) end c.1) (λ _. ack_rest ack_row rs) b z e)
  fields_bounds a_subscribe x b =
      from_bind {C = λ (v : Placed). field_bounds a_subscribe x end b ≡ got (bounds_in v end)} _ _ λ z e.
      from_got (λ (v : Placed). field_bounds a_subscribe x end b ≡ got (bounds_in v end)) (mk_subscribe z) (entries_bounds subscribe_row (filters_fit as_places) b z e)
  fields_bounds (a_reply rs) x b =
      from_bind {C = λ (v : Placed). field_bounds (a_reply rs) x end b ≡ got (bounds_in v end)} _ _ λ z e.
      from_got (λ (v : Placed). field_bounds (a_reply rs) x end b ≡ got (bounds_in v end)) (mk_reply x z) (entries_bounds ack_row (reasons_fit rs) b z e)
  fields_bounds an_unsubscribe x b =
      from_bind {C = λ (v : Placed). field_bounds an_unsubscribe x end b ≡ got (bounds_in v end)} _ _ λ z e.
      from_got (λ (v : Placed). field_bounds an_unsubscribe x end b ≡ got (bounds_in v end)) (mk_unsubscribe z) (entries_bounds unsubscribe_row (topics_fit as_places) b z e)
  fields_bounds a_ping x b =
      from_bind {C = λ (v : Placed). field_bounds a_ping x end b ≡ got (bounds_in v end)} (is_fit any_bytes cut b) _ λ z e.
      from_got (λ (v : Placed). field_bounds a_ping x end b ≡ got (bounds_in v end)) (mk_ping x z) refl

  layout_bounds : (o : Option Layout) (x : ℕ) (b : List ℕ) (v : Placed) → layout_fit as_places o x end b ≡ got v → kind_bounds o x end b ≡ got (bounds_in v end)
  unfolding layout_fit
  layout_bounds none x b v e = absurd (bad_got e)
  layout_bounds (some l) x b v e = fields_bounds l x b v e

  body_bounds : (x : ℕ) (b : List ℕ) (v : Placed) → body_fit as_places x end b ≡ got v → kind_bounds (lookup kinds (kind_of x)) x end b ≡ got (bounds_in v end)
  unfolding body_fit
  body_bounds x b =
      from_guard (not (is_in (kind_of x) reserved)) _ _ λ _.
      from_guard (is_ping (lookup kinds (kind_of x)) || not (is_empty b)) _ _ λ _.
      layout_bounds (lookup kinds (kind_of x)) x b

-- ---- the stream

no_answer : {k : ℕ} {vs : List ℕ} {n m : ℕ} {v : Placed} → refused k vs n ≡ accepted v m → ⊥
no_answer e = let z : ◌≡◌ {A = ℕ} 0 1 = cc in omega arith

answer_is : (n : ℕ) (m : Fit Placed) (v : Placed) (t : ℕ) → body_answer n m ≡ accepted v t → (m ≡ got v) × (n ≡ t)
unfolding body_answer
answer_is n (got w) v t e = (cc, cc)
answer_is n (bad (nr k vs)) v t e = absurd (no_answer e)

module _ (s : List ℕ) (v : Placed) (n : ℕ) where
  frame_is : (m : Fit ((ℕ × List ℕ) × List ℕ)) → frame_answer as_places s m ≡ accepted v n
      → (m >>= λ z. kind_bounds (lookup kinds (kind_of z.0.0)) z.0.0 (length s - length z.1) z.0.1) ≡ got (bounds_in v n)
  unfolding frame_answer whole_answer
  frame_is (got z) e =
      let (i, j) = answer_is (length s - length z.1) (body_fit as_places z.0.0 (length s - length z.1) z.0.1) v n e in
      body_bounds (length s - length z.1) z.0.0 z.0.1 v i ∙ ap (λ (t : ℕ). got (bounds_in v t)) j
  frame_is (bad (nr k vs)) e = absurd (no_answer e)

-- of every record that is read
pub frame_bounds_lem : (limit : Option ℕ) (s : List ℕ) (v : Placed) (n : ℕ) → read_placed_of limit s ≡ accepted v n → frame_bounds limit s ≡ got (bounds_in v n)
unfolding read_as frame_bounds
frame_bounds_lem limit s v n = frame_is s v n (frame_of limit (length s) s)

-- 02, P7: "Every record read shall also carry where its properties start .. and end": what the frame says of them, the answer says too
pub read_bounds : (limit : Option ℕ) (s : List ℕ) → bounds_of limit s ≡ bounds_by (read_placed_of limit s)
unfolding bounds_of
read_bounds limit s = go (read_placed_of limit s) refl
  where
    go : (a : Answer Placed) → read_placed_of limit s ≡ a → if_accepted a (frame_bounds limit s) ≡ bounds_by a
    go (accepted v n) e = frame_bounds_lem limit s v n e
    go (refused k vs n) e = refl
