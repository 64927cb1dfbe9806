-- What `tidy` gives, by its contract alone (02, P14): what would be written of the record that was read, which says the same, is its own tidy form, and is the
-- same for the same records; its length; the refusals; and one result. Assumes nothing.
use mathlib.Core.Path.{◌≡◌, refl, sym, ap, ◌∙◌}
use mathlib.Core.Bool.{Bool, true, false, cond}
use mathlib.Core.Option.{Option, none, some}
use mathlib.Core.Logic.{◌↔◌, ◌⊎◌, inl, inr}
use mathlib.Core.List.{List, [], ◌∷◌, ◌++◌, append-nil}
use Prim.Native.Nat.{ℕ, ◌≤◌, ◌<◌}
use native.Mathlib.Omega.{arith}
use lib.Dec.{leb}
use lib.ListN.{length, take, drop, get_or}
use lib.Seq.{take_at}
use borrow.Author.Tests.{leb-true, leb-false, le-leb}
use Rattle.std.specs.Prelude.{Ok, Err}
use Rattle.grammar.specs.Octets.{Octets}
use Rattle.grammar.specs.Tables.{Layout, a_publish, an_ack, a_subscribe, a_reply, an_unsubscribe, a_ping}
use Rattle.grammar.specs.Sentence.{Packet, Sentence}
use Rattle.reading.specs.Refusal.{Refusal, nr, Answer, accepted, refused, refused_as}
use Rattle.reading.specs.Reader.{Fit, got, bad}
use Rattle.reading.specs.Read.{read_of}
use Rattle.reading.specs.Bounds.{frame_bounds, bounds_of, bounds_in, bounds_by}
use Rattle.reading.proofs.Reading.{got_inj}
use Rattle.reading.proofs.Fields.{num_solid}
use Rattle.reading.proofs.Demand.{no_accept, reads_sentence}
use Rattle.reading.proofs.Places.{placed_of}
use Rattle.reading.proofs.Bounds.{read_bounds}
use Rattle.writing.specs.Handed.{Handed}
use Rattle.writing.specs.Size.{size_is}
use Rattle.writing.specs.Refuse.{Accepts, no_room}
use Rattle.writing.specs.Write.{frame_bytes, out_of, leaves, Written, answered_behind, out_behind, WrittenBehind}
use Rattle.writing.proofs.Each.{each_left}
use Rattle.writing.proofs.Verdict.{accepted_when, refused_when, answered_when, unanswered_when}
use Rattle.writing.proofs.Sizes.{length_frame}
use Rattle.records.specs.AsNumbers.{told_error}
use Rattle.records.proofs.Laws.{injective_by}
use Rattle.records.proofs.AsNumbers.{back_error, back_error_lem}
use Rattle.tidy_form.specs.Tidy.{handed_of, tidy_of}
use Rattle.tidy_form.specs.Order.{success_in, short_ack}
use Rattle.tidy_form.proofs.Said.{sentence_said}
use Rattle.tidy_form.proofs.Good.{good}
use Rattle.tidy_form.proofs.Tidy.{tidy_is, tidy_reads, tidy_again, tidy_equal, tidy_refused}
use Rattle.tidy_form.proofs.Layouts.{opened, bounds_alone, publish_frame, reply_frame, unsubscribe_frame, subscribe_frame, ping_frame, ack_frame, ack_short}
use Rattle.tidying.specs.Tidied.{Tidied, told_tidied, room_for, tidied_of, size_in, stands_in, Tidies, fit_of, tidy_length, layout_in, BareAck}
use Rattle.tidying.proofs.Laws.Put.{laid_length, carried_kind, reason_there}

-- ---- one result

-- the answer, from what it tells
back_tidied : Answer ℕ → Tidied
back_tidied (accepted k n) = Ok (k, n)
back_tidied (refused k vs n) = Err ((back_error (nr k vs)), n)

back_refused_lem : (k : Refusal) (n : ℕ) → back_tidied (refused_as k n) ≡ Err ((back_error k), n)
unfolding back_tidied
back_refused_lem (nr k vs) n = refl

back_tidied_lem : (r : Tidied) → back_tidied (told_tidied r) ≡ r
unfolding back_tidied
back_tidied_lem (Ok (k, n)) = refl
back_tidied_lem (Err (e, n)) = back_refused_lem (told_error e) n ∙ ap (λ k. Err (k, n)) (back_error_lem e)

-- 01: "inputs admit one result only": two answers that tell the same are the same
pub tidied_same : {a b : Tidied} → told_tidied a ≡ told_tidied b → a ≡ b
tidied_same = injective_by told_tidied back_tidied back_tidied_lem

-- two answers to the same stream and output, and what they leave, are the same
pub tidies_same : {s before after after' : List ℕ} {r r' : Tidied} → Tidies s before after r → Tidies s before after' r' → (r ≡ r') × (after ≡ after')
tidies_same t t' = (tidied_same (t.answer ∙ sym t'.answer), t.output ∙ sym t'.output)

-- ---- a frame that is refused

-- the reader's refusal is handed on, with what it takes, and no byte changes
pub tidy_keeps : (s : List ℕ) (k : ℕ) (vs : List ℕ) (n : ℕ) → read_of none s ≡ refused k vs n → {before after : List ℕ} {r : Tidied} → Tidies s before after r → (told_tidied r ≡ refused k vs n) × (after ≡ before)
unfolding tidied_of
tidy_keeps s k vs n e {before} t =
    let i : tidied_of s (length before) ≡ refused k vs n = rw (tidy_refused s k vs n e, e) in
    (t.answer ∙ ap size_in i, t.output ∙ ap (stands_in before) i)

-- ---- a frame that is read

module _ (s : List ℕ) (o : Octets s) (v : Packet) (n : ℕ) (e : read_of none s ≡ accepted v n) where
  tidied_is : (room : ℕ) → tidied_of s room ≡ room_for room (frame_bytes (handed_of v)) n
  unfolding tidied_of
  tidied_is room = rw (tidy_is s o v n e, e)

  accepts_all : Accepts none (size_is (handed_of v)) (handed_of v)
  accepts_all = let (b, r, q, w, _) = (reads_sentence s v n).0 e in (good v (sentence_said v b w (each_left b r (rw q at o)))).accepts

  form_length : length (frame_bytes (handed_of v)) ≡ size_is (handed_of v)
  form_length = length_frame (handed_of v) accepts_all.countable.belongs

  -- 02, P14: "writing the record that was read gives its tidy form": size or refusal, and the output, are those of the writer that is handed the record, with no limit
  pub tidy_writes : {before after : List ℕ} {r : Tidied} → Tidies s before after r → Written none (handed_of v) before after (fit_of (told_tidied r))
  unfolding out_of
  tidy_writes {before} {after} {r} t = go (leb (length (frame_bytes (handed_of v))) (length before)) refl
    where
      go : (b : Bool) → leb (length (frame_bytes (handed_of v))) (length before) ≡ b → Written none (handed_of v) before after (fit_of (told_tidied r))
      go true h =
          let a = accepts_all in
          let f : size_is (handed_of v) ≤ length before = omega (arith, leb-true (length (frame_bytes (handed_of v))) (length before) h, form_length) in
          let w : Accepts none (length before) (handed_of v) = record { countable = a.countable; within = tt; has_ident = a.has_ident; numbers = a.numbers; has_entries = a.has_entries; fits = f } in
          let i : tidied_of s (length before) ≡ accepted (frame_bytes (handed_of v)) n = tidied_is (length before) ∙ rw h in
          record {
            answer = ap fit_of (t.answer ∙ ap size_in i) ∙ ap got form_length ∙ sym ((answered_when none (length before) (handed_of v) (size_is (handed_of v))).1 (w, refl));
            output = t.output ∙ ap (stands_in before) i ∙ ap (leaves before) (sym ((accepted_when none (length before) (handed_of v) (frame_bytes (handed_of v))).1 (w, refl)));
          }
      go false h =
          let a = accepts_all in
          let f : length before < size_is (handed_of v) = omega (arith, leb-false (length (frame_bytes (handed_of v))) (length before) h, form_length) in
          let w = no_room a.countable tt a.has_ident a.numbers a.has_entries f in
          let i : tidied_of s (length before) ≡ refused 19 (length (frame_bytes (handed_of v)) ∷ []) 0 = tidied_is (length before) ∙ rw h in
          record {
            answer = ap fit_of (t.answer ∙ ap size_in i) ∙ ap (λ (k : ℕ). bad (nr 19 (k ∷ []))) form_length ∙ sym ((unanswered_when none (length before) (handed_of v) (nr 19 (size_is (handed_of v) ∷ []))).1 w);
            output = t.output ∙ ap (stands_in before) i ∙ ap (leaves before) (sym ((refused_when none (length before) (handed_of v) (nr 19 (size_is (handed_of v) ∷ []))).1 w));
          }

  -- and those of a writer that may refuse before all else, as `packet_write::write`, if f, what it is lent, is that record
  pub tidy_behind : {f : Fit Handed} → f ≡ got (handed_of v) → {before after after' : List ℕ} {r : Tidied} {told : Fit ℕ} → Tidies s before after r → WrittenBehind none f before after' told → (told ≡ fit_of (told_tidied r)) × (after' ≡ after)
  unfolding answered_behind out_behind out_of
  tidy_behind q {before} t w =
      let a = tidy_writes t in
      (w.answer ∙ ap (λ (g : Fit Handed). answered_behind g none before) q ∙ sym a.answer, w.output ∙ ap (λ (g : Fit Handed). out_behind g none before) q ∙ sym a.output)

  module _ {before after : List ℕ} {k m : ℕ} (t : Tidies s before after (Ok (k, m))) where
    -- what is put is the tidy form, and the frame's bytes are taken
    pub tidy_puts : (take k after ≡ frame_bytes (handed_of v)) × (k ≡ length (frame_bytes (handed_of v))) × (m ≡ n)
    tidy_puts = go (leb (length (frame_bytes (handed_of v))) (length before)) refl
      where
        go : (b : Bool) → leb (length (frame_bytes (handed_of v))) (length before) ≡ b → (take k after ≡ frame_bytes (handed_of v)) × (k ≡ length (frame_bytes (handed_of v))) × (m ≡ n)
        go true h =
            let i : tidied_of s (length before) ≡ accepted (frame_bytes (handed_of v)) n = tidied_is (length before) ∙ rw h in
            let j : accepted k m ≡ accepted (length (frame_bytes (handed_of v))) n = t.answer ∙ ap size_in i in
            let q : k ≡ length (frame_bytes (handed_of v)) = cc in
            let z : after ≡ frame_bytes (handed_of v) ++ drop (length (frame_bytes (handed_of v))) before = t.output ∙ ap (stands_in before) i in
            (rw z (take_at (frame_bytes (handed_of v)) (drop (length (frame_bytes (handed_of v))) before) k (sym q)), q, cc)
        go false h =
            let i : tidied_of s (length before) ≡ refused 19 (length (frame_bytes (handed_of v)) ∷ []) 0 = tidied_is (length before) ∙ rw h in
            absurd (no_accept (sym (t.answer ∙ ap size_in i)))

    -- 02, P14: "The tidy form reads as the same record", P7's two numbers aside, whatever follows it
    pub tidy_says : (r : List ℕ) → read_of none (take k after ++ r) ≡ accepted v k
    tidy_says r = let (i, j, _) = tidy_puts in rw (i, j) (tidy_reads s o v n e r)

    -- 02, P14: "tidying it again changes nothing": where there is room, the same bytes are put again
    pub tidy_settled : {before' after' : List ℕ} {r' : Tidied} → k ≤ length before' → Tidies (take k after) before' after' r' → (r' ≡ Ok (k, k)) × (take k after' ≡ take k after)
    unfolding tidied_of
    tidy_settled {before'} {after'} {r'} h t' =
        let (i, j, _) = tidy_puts in
        let q : tidy_of (take k after) ≡ got (take k after) = tidy_again s o v n e (take k after) (tidy_is s o v n e ∙ ap got (sym i)) in
        let d : read_of none (take k after) ≡ accepted v k = rw (append-nil (take k after)) at (tidy_says []) in
        let l : length (take k after) ≡ k = ap length i ∙ sym j in
        let b : leb (length (take k after)) (length before') ≡ true = le-leb (length (take k after)) (length before') (omega (arith, l, h)) in
        let z : tidied_of (take k after) (length before') ≡ accepted (take k after) k = rw (q, d, b) in
        let y : after' ≡ take k after ++ drop (length (take k after)) before' = t'.output ∙ ap (stands_in before') z in
        (tidied_same (t'.answer ∙ ap size_in z ∙ ap (λ (x : ℕ). accepted x k) l), ap (take k) y ∙ take_at (take k after) (drop (length (take k after)) before') k l)

-- 02, P14: "two accepted frames have equal tidy forms exactly when their records are equal", P7's two numbers aside
pub tidy_alike : (s s' : List ℕ) → Octets s → Octets s' → (v v' : Packet) (n n' : ℕ) → read_of none s ≡ accepted v n → read_of none s' ≡ accepted v' n' → {before after before' after' : List ℕ} {k m k' m' : ℕ}
    → Tidies s before after (Ok (k, m)) → Tidies s' before' after' (Ok (k', m')) → (take k after ≡ take k' after') ↔ (v ≡ v')
tidy_alike s s' o o' v v' n n' e e' t t' =
    let (i, _, _) = tidy_puts s o v n e t in
    let (i', _, _) = tidy_puts s' o' v' n' e' t' in
    let q = tidy_equal s s' o o' v v' n n' e e' in (
      λ z. q.0 (tidy_is s o v n e ∙ ap got (sym i ∙ z ∙ i') ∙ sym (tidy_is s' o' v' n' e')),
      λ z. i ∙ got_inj (sym (tidy_is s o v n e) ∙ q.1 z ∙ tidy_is s' o' v' n' e') ∙ sym i',
    )

-- ---- how long it is

module _ (v : Packet) (c : List ℕ) (s : Sentence v c) (o : Octets c) (start end : ℕ) (d : frame_bounds none c ≡ got (start, end)) where
  short_length : (first : ℕ) → length (short_ack first c) ≡ cond (success_in c) 4 6
  unfolding short_ack
  short_length first = go (success_in c)
    where
      go : (b : Bool) → length (cond b (first ∷ 2 ∷ get_or c 2 0 ∷ get_or c 3 0 ∷ []) (first ∷ 4 ∷ get_or c 2 0 ∷ get_or c 3 0 ∷ get_or c 4 0 ∷ 0 ∷ [])) ≡ cond b 4 6
      go true = refl
      go false = refl

  ack_length : (rs : List ℕ) (b : Bool) → leb end start ≡ b → layout_in c ≡ some (an_ack rs) → length (frame_bytes (handed_of v)) ≡ tidy_length (some (an_ack rs)) b c
  ack_length rs true h e = ap length (ack_short v c s o start end d rs e (leb-true end start h)).2 ∙ short_length _
  ack_length rs false h e = sym (laid_length _ _ c start end [] (ack_frame v c s o start end d rs e (leb-false end start h)))

  by_layout : (l : Option Layout) → layout_in c ≡ l → length (frame_bytes (handed_of v)) ≡ tidy_length l (leb end start) c
  by_layout none e = carried_kind v c s e
  by_layout (some a_publish) e = sym (laid_length _ _ c start end [] (publish_frame v c s o start end d e))
  by_layout (some (an_ack rs)) e = ack_length rs (leb end start) refl e
  by_layout (some a_subscribe) e = sym (laid_length _ _ c start end [] (subscribe_frame v c s o start end d e))
  by_layout (some (a_reply rs)) e = sym (laid_length _ _ c start end [] (reply_frame v c s o start end d rs e))
  by_layout (some an_unsubscribe) e = sym (laid_length _ _ c start end [] (unsubscribe_frame v c s o start end d e))
  by_layout (some a_ping) e = ap length (ping_frame v c s o start end d e)

  -- 02, P14, and DECISIONS 30: the tidy form of the frame c, whose properties stand from `start` to `end`, has this length
  pub tidy_length_lem : length (frame_bytes (handed_of v)) ≡ tidy_length (layout_in c) (leb end start) c
  tidy_length_lem = by_layout (layout_in c) refl

  -- a frame has a first byte and a length
  frame_two : 2 ≤ length c
  frame_two = let w = opened v c s in go w.number w.rest (num_solid 4 (length w.rest) w.number w.spelt) w.whole
    where
      go : {x : ℕ} (n b : List ℕ) → (n ≡ [] → ⊥) → c ≡ x ∷ (n ++ b) → 2 ≤ length c
      go [] b h e = absurd (h refl)
      go (y ∷ n) b h e = omega (arith, ap length e)

  bare_length : (t : Bool) → BareAck c start end t → length (frame_bytes (handed_of v)) ≡ cond t 4 6
  bare_length t (rs, e, h, q) = ap length (ack_short v c s o start end d rs e h).2 ∙ short_length _ ∙ ap (λ (b : Bool). cond b 4 6) q

  -- the layouts whose tidy form has another length
  other_length : (l : Option Layout) → layout_in c ≡ l → (length (frame_bytes (handed_of v)) ≡ length c) ⊎ (((layout_in c ≡ some a_ping) × (length (frame_bytes (handed_of v)) ≡ 2)) ⊎ (BareAck c start end true ⊎ BareAck c start end false))
  other_length none e = carried_kind v c s e
  other_length (some a_publish) e = inl (by_layout (some a_publish) e)
  other_length (some (an_ack rs)) e = go (leb end start) refl (success_in c) refl
    where
      go : (b : Bool) → leb end start ≡ b → (t : Bool) → success_in c ≡ t → (length (frame_bytes (handed_of v)) ≡ length c) ⊎ (((layout_in c ≡ some a_ping) × (length (frame_bytes (handed_of v)) ≡ 2)) ⊎ (BareAck c start end true ⊎ BareAck c start end false))
      go true h true q = inr (inr (inl (rs, e, leb-true end start h, q)))
      go true h false q = inr (inr (inr (rs, e, leb-true end start h, q)))
      go false h t q = inl (ack_length rs false h e)
  other_length (some a_subscribe) e = inl (by_layout (some a_subscribe) e)
  other_length (some (a_reply rs)) e = inl (by_layout (some (a_reply rs)) e)
  other_length (some an_unsubscribe) e = inl (by_layout (some an_unsubscribe) e)
  other_length (some a_ping) e = inr (inl (e, by_layout (some a_ping) e))

  bare_bounds : (t : Bool) → BareAck c start end t → (4 ≤ length c) × (length c ≤ 6)
  bare_bounds t (rs, e, h, q) = let w = ack_short v c s o start end d rs e h in (w.0, w.1)

  -- 02, P14: "A PubAck of five bytes becomes six": longer, by a byte, exactly for a reason other than success in a frame of five bytes (DECISIONS 160)
  pub tidy_longer : (length c < length (frame_bytes (handed_of v))) ↔ (BareAck c start end false × (length c ≡ 5))
  tidy_longer = (λ h. go h (other_length (layout_in c) refl), λ (a, n). omega (arith, n, bare_length false a))
    where
      go : length c < length (frame_bytes (handed_of v)) → (length (frame_bytes (handed_of v)) ≡ length c) ⊎ (((layout_in c ≡ some a_ping) × (length (frame_bytes (handed_of v)) ≡ 2)) ⊎ (BareAck c start end true ⊎ BareAck c start end false)) → BareAck c start end false × (length c ≡ 5)
      go h (inl e) = absurd (omega (arith, h, e))
      go h (inr (inl p)) = absurd (omega (arith, h, p.1, frame_two))
      go h (inr (inr (inl a))) = absurd (omega (arith, h, bare_length true a, (bare_bounds true a).0))
      go h (inr (inr (inr a))) = (a, omega (arith, h, bare_length false a, reason_there c (sym a.3)))

  -- shorter exactly for a ping with bytes behind its length, and for success with no properties in more than four bytes
  pub tidy_shorter : (length (frame_bytes (handed_of v)) < length c) ↔ (((layout_in c ≡ some a_ping) × (2 < length c)) ⊎ (BareAck c start end true × (4 < length c)))
  tidy_shorter = (λ h. go h (other_length (layout_in c) refl), back)
    where
      go : length (frame_bytes (handed_of v)) < length c → (length (frame_bytes (handed_of v)) ≡ length c) ⊎ (((layout_in c ≡ some a_ping) × (length (frame_bytes (handed_of v)) ≡ 2)) ⊎ (BareAck c start end true ⊎ BareAck c start end false))
          → ((layout_in c ≡ some a_ping) × (2 < length c)) ⊎ (BareAck c start end true × (4 < length c))
      go h (inl e) = absurd (omega (arith, h, e))
      go h (inr (inl p)) = inl (p.0, omega (arith, h, p.1))
      go h (inr (inr (inl a))) = inr (a, omega (arith, h, bare_length true a))
      go h (inr (inr (inr a))) = absurd (omega (arith, h, bare_length false a, (bare_bounds false a).1))

      back : ((layout_in c ≡ some a_ping) × (2 < length c)) ⊎ (BareAck c start end true × (4 < length c)) → length (frame_bytes (handed_of v)) < length c
      back (inl (e, h)) = omega (arith, h, by_layout (some a_ping) e)
      back (inr (a, h)) = omega (arith, h, bare_length true a)

-- ---- how long it is, of the function

module _ (s : List ℕ) (o : Octets s) (v : Packet) (n : ℕ) (e : read_of none s ≡ accepted v n) where
  -- the frame at the start of the stream
  frame_there : Sentence v (take n s) × (length (take n s) ≡ n) × Octets (take n s) × (frame_bounds none s ≡ frame_bounds none (take n s))
  frame_there =
      let (b, r, j, w, l) = (reads_sentence s v n).0 e in
      let q : take n s ≡ b = ap (take n) j ∙ take_at b r n l in
      rw q (w, l, each_left b r (rw j at o), ap (frame_bounds none) j ∙ bounds_alone v b r w)

  -- 02's two numbers of a record that is read are those of its frame
  bounds_there : {start end : ℕ} → bounds_of none s ≡ got (start, end) → frame_bounds none (take n s) ≡ got (start, end)
  unfolding bounds_of
  bounds_there d = let (p, q, _) = placed_of none s v n e in sym frame_there.3 ∙ (rw q at d)

  bounds_read : (start end : ℕ) × (bounds_of none s ≡ got (start, end))
  bounds_read = let (p, q, _) = placed_of none s v n e in ((bounds_in p n).0, (bounds_in p n).1, read_bounds none s ∙ ap bounds_by q)

  module _ {before after : List ℕ} {k m : ℕ} (t : Tidies s before after (Ok (k, m))) where
    module _ {start end : ℕ} (d : bounds_of none s ≡ got (start, end)) where
      -- 02, P14: "A PubAck of five bytes becomes six": more bytes are put than taken exactly for that, and then they are six
      pub put_longer : (m < k) ↔ (BareAck (take n s) start end false × (m ≡ 5))
      put_longer =
          let (_, i, j) = tidy_puts s o v n e t in
          let (w, l, c, _) = frame_there in
          let h = tidy_longer v (take n s) w c start end (bounds_there d) in
          (λ x. let (a, f) = h.0 (omega (arith, x, i, j, l)) in (a, omega (arith, f, j, l)), λ (a, f). let x = h.1 (a, omega (arith, f, j, l)) in omega (arith, x, i, j, l))

      -- fewer are put than taken exactly for a ping with bytes behind its length, and for success with no properties in more than four bytes
      pub put_shorter : (k < m) ↔ (((layout_in (take n s) ≡ some a_ping) × (2 < m)) ⊎ (BareAck (take n s) start end true × (4 < m)))
      put_shorter =
          let (_, i, j) = tidy_puts s o v n e t in
          let (w, l, c, _) = frame_there in
          let q : length (take n s) ≡ m = l ∙ sym j in
          rw (i, ← q) (tidy_shorter v (take n s) w c start end (bounds_there d))

    -- no more bytes are put than taken, or six for five
    pub put_length : (k ≤ m) ⊎ ((m ≡ 5) × (k ≡ 6))
    put_length = go (leb k m) refl
      where
        go : (b : Bool) → leb k m ≡ b → (k ≤ m) ⊎ ((m ≡ 5) × (k ≡ 6))
        go true h = inl (leb-true k m h)
        go false h =
            let (start, end, d) = bounds_read in
            let (w, l, c, _) = frame_there in
            let (a, f) = (put_longer d).0 (leb-false k m h) in
            inr (f, (tidy_puts s o v n e t).1 ∙ bare_length v (take n s) w c start end (bounds_there d) false a)
