-- What is written is a sentence that says the record, it is bytes, and it is as long as the size says; so it is read back.
-- Assumes nothing.
use mathlib.Core.Path.{◌≡◌, refl, sym, ap, ◌∙◌}
use mathlib.Core.Bool.{Bool, true, false, cond}
use mathlib.Core.Option.{Option, none, some}
use mathlib.Core.List.{List, ◌++◌}
use Prim.Native.Nat.{ℕ, ◌≤◌}
use native.Mathlib.Omega.{arith}
use native.Mathlib.Nat.{zero-add}
use lib.Dec.{eqb}
use lib.ListN.{length, drop, length-append, length-drop}
use lib.Seq.{sets, sets-eq}
use borrow.Author.Tests.{eqb-true}
use Rattle.grammar.specs.Choice.{is_empty}
use Rattle.grammar.specs.Tables.{Row, publish_row, subscribe_row, ack_row, unsubscribe_row}
use Rattle.grammar.specs.Sentence.{Sentence}
use Rattle.grammar.specs.Octets.{Each}
use Rattle.reading.specs.Refusal.{Refusal, accepted}
use Rattle.reading.specs.Reader.{Fit, got, bad}
use Rattle.reading.specs.Read.{read_of}
use Rattle.reading.proofs.Demand.{reads_sentence}
use Rattle.writing.specs.Handed.{PublishHanded, SubscribeHanded, AckHanded, ReplyHanded, UnsubscribeHanded, Handed, publish, ack, subscribe, reply, unsubscribe, ping, Givens, publish_given, subscribe_given, ack_given, unsubscribe_given, entries}
use Rattle.writing.specs.Size.{size_is}
use Rattle.writing.specs.Write.{frame_bytes, write_of, leaves, out_of}
use Rattle.writing.specs.Refuse.{InBlock, Belongs}
use Rattle.writing.specs.Meant.{publish_set, subscribe_set, ack_set, unsubscribe_set, the_publish, the_ack, the_subscribe, the_reply, the_unsubscribe, meant, none_publish, none_ack, none_subscribe, none_unsubscribe, said, Typed, Filled, Plain}
use Rattle.writing.specs.Written.{WrittenBytes}
use Rattle.writing.proofs.Belong.{nothing_entries}
use Rattle.writing.proofs.Sizes.{length_frame}
use Rattle.writing.proofs.Verdict.{answered_when, accepts, written, sized_when}
use Rattle.writing.proofs.Packets.{says_handed}

-- ---- an accepted write, of anything that is handed over

module _ (limit : Option ℕ) (room : ℕ) (h : Handed) (b : List ℕ) (e : write_of limit room h ≡ got b) where
  -- the size is the number of bytes
  pub written_size : size_is h ≡ length b
  written_size = sym (ap length (written limit room h b e) ∙ length_frame h (accepts limit room h b e).countable.belongs)

module _ (limit : Option ℕ) (room : ℕ) (h : Handed) (b : List ℕ) (t : Typed h) (e : write_of limit room h ≡ got b) where
  pub writes : WrittenBytes limit room h b
  writes =
      let p = accepts limit room h b e in
      let i : b ≡ frame_bytes h = written limit room h b e in
      let s = says_handed limit room h t p in
      let l : size_is h ≡ length b = written_size limit room h b e in
      record {
        sentence = rw i s.spelled;
        octets = rw i s.octets;
        size = (sized_when h (length b)).1 ((p.countable.belongs, p.countable.rest), l);
        answer = (answered_when limit room h (length b)).1 (p, l);
        within = rw l at p.within;
        fits = rw l at p.fits;
      }

  -- whatever follows, what is read is what the bytes say, and taken is the size
  pub reads_said : (r : List ℕ) → read_of none (b ++ r) ≡ accepted (said h) (length b)
  reads_said r = (reads_sentence (b ++ r) (said h) (length b)).1 (b, r, refl, writes.sentence, refl)

-- ---- when that is the record

ident_same : (q i : ℕ) → (q ≡ 0 → i ≡ 0) → cond (eqb q 0) 0 i ≡ i
ident_same q i f = go (eqb q 0) refl
  where
    go : (t : Bool) → eqb q 0 ≡ t → cond t 0 i ≡ i
    go true e = sym (f (eqb-true q 0 e))
    go false e = refl

set_same : {A : Type 0} (row : Row) (block : Bool) (g : Givens) → Each (InBlock block g) row.forms → Filled block (is_empty (entries row g)) → (a : A)
    → cond (is_empty (entries row g)) none (some a) ≡ cond block (some a) none
set_same row true g w f a = go (is_empty (entries row g)) refl
  where
    go : (t : Bool) → is_empty (entries row g) ≡ t → cond t none (some a) ≡ some a
    go true e = absurd (f refl e)
    go false e = refl
set_same row false g w f a = rw (nothing_entries row false g w refl)

-- 01, reading back: "QoS 0 has identifier 0, and no property set is present but empty"
pub said_meant : (h : Handed) → Belongs h → Plain h → said h ≡ meant h
unfolding said meant
said_meant (publish h) w p = rw (ident_same h.qos h.ident p.0, set_same publish_row h.block (publish_given h) w p.1 (publish_set h))
said_meant (ack k h) w p = rw (set_same ack_row h.block (ack_given h.text h.user) w p (ack_set h.text h.user))
said_meant (subscribe h) w p = rw (set_same subscribe_row h.block (subscribe_given h) w.0 p (subscribe_set h))
said_meant (reply k h) w p = rw (set_same ack_row h.block (ack_given h.text h.user) w p (ack_set h.text h.user))
said_meant (unsubscribe h) w p = rw (set_same unsubscribe_row h.block (unsubscribe_given h.user) w.0 p (unsubscribe_set h.user))
said_meant (ping k) w p = refl

-- the theorem: what is written is a sentence that says the record, and is read back, whatever follows
module _ (limit : Option ℕ) (room : ℕ) (h : Handed) (b : List ℕ) (t : Typed h) (p : Plain h) (e : write_of limit room h ≡ got b) where
  said_so : said h ≡ meant h
  said_so = said_meant h (accepts limit room h b e).countable.belongs p

  pub writes_meant : Sentence (meant h) b
  writes_meant = rw (← said_so) (writes limit room h b t e).sentence

  pub reads_back : (r : List ℕ) → read_of none (b ++ r) ≡ accepted (meant h) (length b)
  reads_back r = rw (← said_so) (reads_said limit room h b t e r)

-- ---- when it is not: an identifier at QoS 0 is not written, and 0 is read; a set that is present but empty is read as absent

module _ (limit : Option ℕ) (room : ℕ) (b r : List ℕ) where
  pub reads_no_ident : (h : PublishHanded) → Typed (publish h) → Filled h.block (none_publish h) → h.qos ≡ 0 → write_of limit room (publish h) ≡ got b
      → read_of none (b ++ r) ≡ accepted (the_publish h 0 (cond h.block (some (publish_set h)) none)) (length b)
  unfolding said
  reads_no_ident h t f q e =
      reads_said limit room (publish h) b t e r
      ∙ rw (set_same publish_row h.block (publish_given h) (accepts limit room (publish h) b e).countable.belongs f (publish_set h), q)

  pub publish_no_set : (h : PublishHanded) → Typed (publish h) → none_publish h ≡ true → write_of limit room (publish h) ≡ got b
      → read_of none (b ++ r) ≡ accepted (the_publish h (cond (eqb h.qos 0) 0 h.ident) none) (length b)
  unfolding said
  publish_no_set h t f e = reads_said limit room (publish h) b t e r ∙ rw f

  pub ack_no_set : (k : ℕ) (h : AckHanded) → Typed (ack k h) → none_ack h.text h.user ≡ true → write_of limit room (ack k h) ≡ got b → read_of none (b ++ r) ≡ accepted (the_ack k h none) (length b)
  unfolding said
  ack_no_set k h t f e = reads_said limit room (ack k h) b t e r ∙ rw f

  pub subscribe_no_set : (h : SubscribeHanded) → Typed (subscribe h) → none_subscribe h ≡ true → write_of limit room (subscribe h) ≡ got b → read_of none (b ++ r) ≡ accepted (the_subscribe h none) (length b)
  unfolding said
  subscribe_no_set h t f e = reads_said limit room (subscribe h) b t e r ∙ rw f

  pub reply_no_set : (k : ℕ) (h : ReplyHanded) → Typed (reply k h) → none_ack h.text h.user ≡ true → write_of limit room (reply k h) ≡ got b → read_of none (b ++ r) ≡ accepted (the_reply k h none) (length b)
  unfolding said
  reply_no_set k h t f e = reads_said limit room (reply k h) b t e r ∙ rw f

  pub unsubscribe_no_set : (h : UnsubscribeHanded) → Typed (unsubscribe h) → none_unsubscribe h.user ≡ true → write_of limit room (unsubscribe h) ≡ got b → read_of none (b ++ r) ≡ accepted (the_unsubscribe h none) (length b)
  unfolding said
  unsubscribe_no_set h t f e = reads_said limit room (unsubscribe h) b t e r ∙ rw f

-- ---- the output

module _ (limit : Option ℕ) (out : List ℕ) (h : Handed) where
  -- 01: "A refused write leaves the output as it stood"
  pub out_refused : (k : Refusal) → write_of limit (length out) h ≡ bad k → out_of limit out h ≡ out
  unfolding out_of
  out_refused k e = ap (leaves out) e

  -- 01: "An accepted one sets the first size bytes, .. and keeps the rest"
  pub out_written : (b : List ℕ) → write_of limit (length out) h ≡ got b → out_of limit out h ≡ b ++ drop (length b) out
  unfolding out_of
  out_written b e = rw e

  room_for : (b : List ℕ) → write_of limit (length out) h ≡ got b → length b ≤ length out
  room_for b e = rw (written_size limit (length out) h b e) at (accepts limit (length out) h b e).fits

  -- the same as a run of stores from place 0 on
  pub out_sets : (b : List ℕ) → write_of limit (length out) h ≡ got b → out_of limit out h ≡ sets out 0 b
  out_sets b e =
      let l = room_for b e in
      out_written b e ∙ sym (sets-eq b out 0 (omega arith) ∙ rw (zero-add (length b)))

  pub out_length : length (out_of limit out h) ≡ length out
  unfolding out_of
  out_length = go (write_of limit (length out) h) refl
    where
      go : (m : Fit (List ℕ)) → write_of limit (length out) h ≡ m → length (leaves out m) ≡ length out
      go (bad k) e = refl
      go (got b) e = let l = room_for b e in simp (length-append, length-drop) (omega arith)
