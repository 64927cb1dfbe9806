-- Each reader refuses just where its bytes have the fault, and every stream has one verdict, which is the reader's answer. Assumes nothing.
use mathlib.Core.Path.{◌≡◌, refl, sym, ap, ◌∙◌, subst}
use mathlib.Core.Bool.{true, false, not, ◌||◌, false≢true}
use mathlib.Core.Option.{Option, none, some}
use mathlib.Core.Logic.{◌↔◌}
use mathlib.Core.List.{List, [], ◌∷◌, ◌++◌}
use Prim.Native.Nat.{ℕ, zero, suc, ◌-◌}
use native.Mathlib.Omega.{arith}
use lib.ListN.{length, length-append}
use borrow.Author.Tests.{not-false, not-true}
use Rattle.grammar.specs.Choice.{is_in, lookup, is_empty}
use Rattle.grammar.specs.Gram.{Gram, done, more, Many, Solid}
use Rattle.grammar.specs.Number.{shortest}
use Rattle.grammar.specs.Text.{Utf8}
use Rattle.grammar.specs.Tables.{Form, u8, u16, u32, number, text, bytes, pair, Row, publish_row, subscribe_row, ack_row, unsubscribe_row, Layout, a_publish, an_ack, a_subscribe, a_reply, an_unsubscribe, a_ping, kinds, reserved, is_ping, form_at}
use Rattle.grammar.specs.Record.{num, str, kind_of, flag_qos, mk_publish, mk_ack, mk_filter, mk_subscribe, mk_reply, mk_unsubscribe, mk_ping}
use Rattle.grammar.specs.Sentence.{Text, Prop, duo_of, met, Block, props_if, not_three, not_zero, qos_fine, rule_fine, some_of, ReasonOf, Packet}
use Rattle.reading.specs.Refusal.{Refusal, nr, Answer, cut, crossed, lacking, passes, exceeds}
use Rattle.reading.specs.Fault.{Fault, Sound, NumFault, ManyFault, ExactFault, BytesFault, TextFault, ValueFault, OnceFault, PropertyFault, no_id, unknown, value, BlockFault, AckFault, reason, block, IdentFault, FilterFault, SomeFault, no_entry, entry, FiltersFault, ReasonFault, MessageFault, PublishFault, qos, fields, FieldsFault, BodyFault, kind, no_bytes, foreign, content, FrameFault, Passing, Verdict, says, breaks, no_frame}
use Rattle.reading.specs.Reader.{Fit, got, bad, Reader, is_fit, only_fit, exact_fit, run_fit, chain_fit, many_fit}
use Rattle.reading.specs.Read.{num_of, ident_of, is_text, any_bytes, as_bytes, some_fit, reasons_fit, frame_of, body_answer, string_fit, bytes_of, text_of, value_of, value_at, property_of, once_of, properties_fit, block_of, publish_as, props_as, ack_block_fit, ack_rest_fit, filter_of, filters_fit, topics_fit, message_fit, fields_fit, layout_fit, body_fit, whole_answer, frame_answer, read_as, read_of}
use Rattle.reading.proofs.Lists.{none_left}
use Rattle.reading.proofs.Reading.{Reads, reads_only, fills_many}
use Rattle.reading.proofs.Fields.{reads_byte, reads_big, reads_groups, reads_num, text_fine, reads_bytes, reads_text, reads_once, once_solid}
use Rattle.reading.proofs.Packets.{reads_props, reads_ident, reads_filter, filter_solid, reads_publish_block, reason_solid, text_solid, kind_fine, fills_body}
use Rattle.reading.proofs.Demand.{reads_length, reads_frame, whole_answer_lem}
use Rattle.reading.proofs.Refusing.{got_bad, of_bind, of_guard, RefusesBy, refuses_byte, refuses_big, refuses_groups, refuses_none, refuses_map, refuses_fit, refuses_hand, refuses_then, refuses_end, refuses_only, refuses_by, refuses_exact, refuses_chain, refuses_many, refuses_head, refuses_sized, refuses_is}

-- ---- strings and properties

refuses_num : (c : Refusal) (k : ℕ) → RefusesBy (num_of c k) (NumFault c k)
unfolding num_of
refuses_num c k = refuses_by (refuses_groups c k) (reads_groups c k) shortest (λ _ _. nr 2 [])

sound : RefusesBy (is_fit any_bytes cut) Sound
unfolding is_fit
sound = record { fault = λ s k e. got_bad e; refuse = λ s k f. elim f [ ] }

module _ (end : ℕ) where
  refuses_bytes : RefusesBy (bytes_of as_bytes end) BytesFault
  unfolding bytes_of string_fit
  refuses_bytes = refuses_sized crossed (reads_big cut 2) (refuses_big cut 2) (refuses_hand _ (λ _. sound)) end

  refuses_text : RefusesBy (text_of as_bytes end) TextFault
  unfolding text_of string_fit
  refuses_text = refuses_sized crossed (reads_big cut 2) (refuses_big cut 2) (refuses_hand _ (λ _. refuses_is is_text Utf8 (nr 9 []) text_fine)) end

refuses_value : (k : Form) (end : ℕ) → RefusesBy (value_of as_bytes k end) (ValueFault k)
unfolding value_of
refuses_value u8 end = refuses_map (refuses_byte cut) num
refuses_value u16 end = refuses_map (refuses_big cut 2) num
refuses_value u32 end = refuses_map (refuses_big cut 4) num
refuses_value number end = refuses_map (refuses_only (refuses_num cut 4) (reads_num cut 4) not_zero (λ _. nr 23 [])) num
refuses_value text end = refuses_map (refuses_text end) str
refuses_value bytes end = refuses_map (refuses_bytes end) str
refuses_value pair end = refuses_map (refuses_then (refuses_text end) (reads_text end) (refuses_text end)) duo_of

module _ (row : Row) (end : ℕ) where
  kind_fault : (i : ℕ) (s : List ℕ) (k : Refusal) (o : Option Form) → form_at row i ≡ o → value_at as_bytes o i end s ≡ bad k → PropertyFault row (i ∷ s) k
  unfolding value_at
  kind_fault i s k none e h = subst (PropertyFault row (i ∷ s)) (cc) (unknown e)
  kind_fault i s k (some t) e h = of_bind (value_of as_bytes t end s) _ k (λ e'. value e ((refuses_value t end).fault s k e')) (λ y e' e''. got_bad e'') h

  property_fault : (s : List ℕ) (k : Refusal) → property_of as_bytes row end s ≡ bad k → PropertyFault row s k
  unfolding property_of
  property_fault [] k e = subst (PropertyFault row []) (cc) no_id
  property_fault (i ∷ s) k e = kind_fault i s k (form_at row i) refl e

  property_refuse : (s : List ℕ) (k : Refusal) → PropertyFault row s k → property_of as_bytes row end s ≡ bad k
  unfolding property_of value_at
  property_refuse _ _ no_id = refl
  property_refuse _ _ (unknown e) = rw e
  property_refuse _ k (value {f = t} {s = s} e h) = rw (e, (refuses_value t end).refuse s k h)

  refuses_property : RefusesBy (property_of as_bytes row end) (PropertyFault row)
  refuses_property = record { fault = property_fault; refuse = property_refuse }

refuses_once : (row : Row) (end : ℕ) (σ : List ℕ) → RefusesBy (once_of as_bytes row end σ) (OnceFault row σ)
unfolding once_of
refuses_once row end σ = refuses_head (refuses_property row end) (λ i. not (is_in i σ)) (λ i. nr 22 (i ∷ []))

refuses_block : {A : Type 0} (row : Row) (f : List Prop → List ℕ → ℕ → A) (end : ℕ) → RefusesBy (block_of as_bytes row f end) (BlockFault row)
unfolding block_of properties_fit
refuses_block row f = refuses_sized crossed (reads_num cut 4) (refuses_num cut 4) (refuses_hand f (λ e. refuses_chain (met row) (refuses_once row e) (reads_once row e) (once_solid row) []))

-- ---- bodies

module _ (row : Row) (rs : List ℕ) (end : ℕ) where
  ack_block : RefusesBy (exact_fit (block_of as_bytes row (props_as as_bytes) end) cut) (ExactFault (Block row props_if) (BlockFault row) cut)
  ack_block = refuses_exact (refuses_block row (props_as as_bytes) end) (reads_props row end) cut

  block_fault : (c : ℕ) (r : List ℕ) (k : Refusal) → is_in c rs ≡ true → ack_block_fit as_bytes row end r ≡ bad k → AckFault row rs (c ∷ r) k
  unfolding ack_block_fit
  block_fault c [] k h e = got_bad e
  block_fault c (x ∷ r) k h e = block h (ack_block.fault (x ∷ r) k e)

  rest_fault : (s : List ℕ) (k : Refusal) → ack_rest_fit as_bytes row rs end s ≡ bad k → AckFault row rs s k
  unfolding ack_rest_fit
  rest_fault [] k = got_bad
  rest_fault (c ∷ r) k = of_guard (is_in c rs) (nr 15 (c ∷ [])) _ k (λ h i. subst (AckFault row rs (c ∷ r)) i (reason h))
      λ h. of_bind (ack_block_fit as_bytes row end r) _ k (block_fault c r k h) (λ ps e e'. got_bad e')

  rest_refuse : (s : List ℕ) (k : Refusal) → AckFault row rs s k → ack_rest_fit as_bytes row rs end s ≡ bad k
  unfolding ack_rest_fit ack_block_fit
  rest_refuse _ _ (reason h) = rw h
  rest_refuse _ k (block {x = x} {r = r} h f) = rw (h, ack_block.refuse (x ∷ r) k f)

  refuses_rest : RefusesBy (ack_rest_fit as_bytes row rs end) (AckFault row rs)
  refuses_rest = record { fault = rest_fault; refuse = rest_refuse }

-- ---- one or more, to the end

module _ {A : Type 0} {p : Reader A} {G : Gram A} {F : Fault} (P : RefusesBy p F) (R : Reads p G) (S : Solid G) where
  refuses_run : RefusesBy (many_fit p) (ManyFault G F)
  refuses_run = refuses_many P R S

  empty_run : (vs : List A) (s : List ℕ) → some_of vs ≡ false → Many G vs s → s ≡ []
  empty_run _ _ h done = refl
  empty_run _ _ h (more g m) = absurd (false≢true (sym h))

  some_fault : (s : List ℕ) (k : Refusal) → some_fit p s ≡ bad k → SomeFault G F s k
  unfolding only_fit
  some_fault s k = of_bind (many_fit p s) _ k (λ e. entry (refuses_run.fault s k e)) λ vs e. of_guard (some_of vs) (nr 13 []) _ k
      (λ h i. rw (empty_run vs s h ((fills_many R S).back s vs e), ← i) no_entry) (λ _ e'. got_bad e')

  some_refuse : (s : List ℕ) (k : Refusal) → SomeFault G F s k → some_fit p s ≡ bad k
  unfolding only_fit chain_fit run_fit
  some_refuse _ _ no_entry = refl
  some_refuse s k (entry h) = rw (refuses_run.refuse s k h)

  refuses_some : RefusesBy (some_fit p) (SomeFault G F)
  refuses_some = record { fault = some_fault; refuse = some_refuse }

module _ (end : ℕ) where
  refuses_filter : RefusesBy (filter_of as_bytes end) FilterFault
  unfolding filter_of
  refuses_filter =
      refuses_map (refuses_then (refuses_text end) (reads_text end)
      (refuses_only (refuses_only (refuses_byte cut) (reads_byte cut) rule_fine (λ _. nr 14 (3 ∷ []))) (reads_only rule_fine (λ _. nr 14 (3 ∷ [])) (reads_byte cut)) qos_fine (λ _. nr 11 (3 ∷ []))))
      mk_filter

  refuses_filters : RefusesBy (filters_fit as_bytes end) FiltersFault
  unfolding filters_fit
  refuses_filters = refuses_some refuses_filter (reads_filter end) filter_solid

  refuses_topics : RefusesBy (topics_fit as_bytes end) (SomeFault Text TextFault)
  unfolding topics_fit
  refuses_topics = refuses_some (refuses_text end) (reads_text end) text_solid

refuses_reasons : (rs : List ℕ) (end : ℕ) → RefusesBy (reasons_fit rs end) (SomeFault (ReasonOf rs) (ReasonFault rs))
unfolding reasons_fit
refuses_reasons rs end =
    refuses_some (refuses_only (refuses_byte cut) (reads_byte cut) (λ c. is_in c rs) (λ c. nr 15 (c ∷ []))) (reads_only (λ c. is_in c rs) (λ c. nr 15 (c ∷ [])) (reads_byte cut)) (reason_solid rs)

refuses_ident : (q : ℕ) → RefusesBy (ident_of q) (IdentFault q)
unfolding ident_of
refuses_ident zero = refuses_none 0
refuses_ident (suc q) = refuses_only (refuses_big cut 2) (reads_big cut 2) not_zero (λ _. nr 12 [])

-- ---- every layout

module _ (x end : ℕ) where
  refuses_message : RefusesBy (message_fit as_bytes x end) (MessageFault (flag_qos x))
  unfolding message_fit string_fit
  refuses_message =
      refuses_fit (mk_publish x)
      (refuses_end (refuses_bytes end) (reads_bytes end)
      (refuses_end (refuses_ident (flag_qos x)) (reads_ident (flag_qos x))
      (refuses_end (refuses_block publish_row (publish_as as_bytes) end) (reads_publish_block end)
      (refuses_hand _ (λ _. sound) end))))

  publish_fault : (s : List ℕ) (k : Refusal) → fields_fit as_bytes a_publish x end s ≡ bad k → PublishFault x s k
  unfolding fields_fit
  publish_fault s k = of_guard (not_three (flag_qos x)) (nr 11 (3 ∷ [])) _ k (λ h i. subst (PublishFault x s) i (qos h)) (λ h e. fields h (refuses_message.fault s k e))

  publish_refuse : (s : List ℕ) (k : Refusal) → PublishFault x s k → fields_fit as_bytes a_publish x end s ≡ bad k
  unfolding fields_fit
  publish_refuse s _ (qos h) = rw h
  publish_refuse s k (fields h f) = rw (h, refuses_message.refuse s k f)

  refuses_fields : (f : Layout) → RefusesBy (fields_fit as_bytes f x end) (FieldsFault f x)
  unfolding fields_fit
  refuses_fields a_publish = record { fault = publish_fault; refuse = publish_refuse }
  refuses_fields (an_ack rs) = refuses_fit (mk_ack x) (refuses_end (refuses_big cut 2) (reads_big cut 2) (refuses_rest ack_row rs end))
  refuses_fields a_subscribe =
      refuses_fit mk_subscribe
      (refuses_end (refuses_big cut 2) (reads_big cut 2)
      (refuses_end (refuses_block subscribe_row (props_as as_bytes) end) (reads_props subscribe_row end)
      (refuses_hand _ refuses_filters end)))
  refuses_fields (a_reply rs) =
      refuses_fit (mk_reply x)
      (refuses_end (refuses_big cut 2) (reads_big cut 2)
      (refuses_end (refuses_block ack_row (props_as as_bytes) end) (reads_props ack_row end)
      (refuses_hand _ (refuses_reasons rs) end)))
  refuses_fields an_unsubscribe =
      refuses_fit mk_unsubscribe
      (refuses_end (refuses_big cut 2) (reads_big cut 2)
      (refuses_end (refuses_block unsubscribe_row (props_as as_bytes) end) (reads_props unsubscribe_row end)
      (refuses_hand _ refuses_topics end)))
  refuses_fields a_ping = refuses_fit (mk_ping x) sound

  -- ---- rows 4, 5 and 6

  foreign_fault : (b : List ℕ) (k : Refusal) → is_in (kind_of x) reserved ≡ false → lookup kinds (kind_of x) ≡ none → (false || not (is_empty b)) ≡ true → nr 6 (kind_of x ∷ []) ≡ k → BodyFault x b k
  foreign_fault [] k h e h' i = absurd (false≢true h')
  foreign_fault (y ∷ b) k h e h' i = subst (BodyFault x (y ∷ b)) i (foreign h e)

  layout_fault : (b : List ℕ) (k : Refusal) (o : Option Layout) → is_in (kind_of x) reserved ≡ false → lookup kinds (kind_of x) ≡ o → (is_ping o || not (is_empty b)) ≡ true → layout_fit as_bytes o x end b ≡ bad k → BodyFault x b k
  unfolding layout_fit
  layout_fault b k none h e h' i = foreign_fault b k h e h' (cc)
  layout_fault b k (some f) h e h' i = content e h' ((refuses_fields f).fault b k i)

  body_fault : (b : List ℕ) (k : Refusal) → body_fit as_bytes x end b ≡ bad k → BodyFault x b k
  unfolding body_fit
  body_fault b k =
      of_guard (not (is_in (kind_of x) reserved)) (nr 4 (kind_of x ∷ [])) _ k (λ h i. subst (BodyFault x b) i (kind (not-false (is_in (kind_of x) reserved) h))) λ h.
      let h₀ : is_in (kind_of x) reserved ≡ false = not-true (is_in (kind_of x) reserved) h in
      of_guard (is_ping (lookup kinds (kind_of x)) || not (is_empty b)) (nr 5 []) _ k
      (λ h' i. let (p, n) = none_left (is_ping (lookup kinds (kind_of x))) b h' in rw (n, ← i) (no_bytes h₀ p))
      (λ h'. layout_fault b k (lookup kinds (kind_of x)) h₀ refl h')

  body_refuse : (b : List ℕ) (k : Refusal) → BodyFault x b k → body_fit as_bytes x end b ≡ bad k
  unfolding body_fit layout_fit
  body_refuse b _ (kind h) = rw h
  body_refuse _ _ (no_bytes h h') = rw (h, h')
  body_refuse _ _ (foreign h e) = rw (h, e)
  body_refuse b k (content {l = f} e h g) = rw (kind_fine (kind_of x) f e, e, h, (refuses_fields f).refuse b k g)

  refuses_body : RefusesBy (body_fit as_bytes x end) (BodyFault x)
  refuses_body = record { fault = body_fault; refuse = body_refuse }

-- ---- the frame, and the verdict

pub refuses_frame : (limit : Option ℕ) (end : ℕ) → RefusesBy (frame_of limit end) (FrameFault limit)
unfolding frame_of
refuses_frame limit end =
    refuses_then (refuses_byte (nr 1 (2 ∷ []))) (reads_byte (nr 1 (2 ∷ [])))
    (refuses_sized lacking (reads_length limit) (refuses_by (refuses_num (nr 1 (1 ∷ [])) 4) (reads_num (nr 1 (1 ∷ [])) 4) (passes limit) (exceeds limit)) (λ _. sound) end)

module _ (limit : Option ℕ) where
  body_verdict : (c r : List ℕ) (z : ℕ × List ℕ) (end : ℕ) → Passing limit z c → (m : Fit Packet) → body_fit as_bytes z.0 end z.1 ≡ m → Verdict limit (c ++ r) (body_answer (length c) m)
  unfolding body_answer
  body_verdict c r z end f (got v) e = says r f ((fills_body z.0 end).back z.1 v e)
  body_verdict c r z end f (bad (nr k vs)) e = breaks r f ((refuses_body z.0 end).fault z.1 (nr k vs) e)

  whole_verdict : (s c r : List ℕ) (z : ℕ × List ℕ) → Passing limit z c → s ≡ c ++ r → Verdict limit s (whole_answer as_bytes (length s - length r) z)
  unfolding whole_answer
  whole_verdict s c r z f e =
      let n : length s - length r ≡ length c = omega (arith, ap length e, length-append c r) in
      rw (n, e) (body_verdict c r z (length c) f (body_fit as_bytes z.0 (length c) z.1) refl)

  frame_verdict : (s : List ℕ) (m : Fit ((ℕ × List ℕ) × List ℕ)) → frame_of limit (length s) s ≡ m → Verdict limit s (frame_answer as_bytes s m)
  unfolding frame_answer
  frame_verdict s (bad (nr k vs)) e = no_frame ((refuses_frame limit (length s)).fault s (nr k vs) e)
  frame_verdict s (got z) e =
      let (c, e₁, f) = (reads_frame limit (reads_length limit) (length s)).split s z e in
      whole_verdict s c z.1 z.0 f e₁

  has_verdict : (s : List ℕ) → Verdict limit s (read_of limit s)
  unfolding read_as
  has_verdict s = frame_verdict s (frame_of limit (length s) s) refl

  one_verdict : (s : List ℕ) (a : Answer Packet) → Verdict limit s a → read_of limit s ≡ a
  unfolding read_as frame_answer whole_answer body_answer
  one_verdict _ _ (says {x = x} {b = b} {c = c} {v = v} r f g) = whole_answer_lem as_bytes limit (x, b) c r f ∙ rw ((fills_body x (length c)).whole v b g)
  one_verdict _ _ (breaks {x = x} {k = k} {b = b} {c = c} {vs = vs} r f g) = whole_answer_lem as_bytes limit (x, b) c r f ∙ rw ((refuses_body x (length c)).refuse b (nr k vs) g)
  one_verdict s _ (no_frame {k = k} {vs = vs} h) = rw ((refuses_frame limit (length s)).refuse s (nr k vs) h)

-- every stream has one verdict, and it is the answer: a sentence at its front, a whole frame with one fault, or no frame to take
pub answered : (limit : Option ℕ) (s : List ℕ) (a : Answer Packet) → (read_of limit s ≡ a) ↔ Verdict limit s a
answered limit s a = (λ e. subst (Verdict limit s) e (has_verdict limit s), one_verdict limit s a)
