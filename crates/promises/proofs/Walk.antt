-- A list at a place, walked item by item over the stream up to its end, gives the items of the list; so of a record that was read the
-- walk gives the lists of the sentence in order. Assumes nothing.
use Rattle.std.specs.Prelude as std
use Rattle.std.specs.Prelude.{Some, Ok}
use mathlib.Core.Path.{◌≡◌, refl, sym, ap, ◌∙◌, subst}
use mathlib.Core.Bool.{Bool, true, false}
use mathlib.Core.Option.{Option, some}
use mathlib.Core.List.{List, [], ◌∷◌, map}
use Prim.Native.Nat.{ℕ, zero, suc, ◌+◌, ◌-◌, ◌≤◌, ◌<◌}
use native.Mathlib.Omega.{arith}
use lib.Dec.{leb, leb→le}
use lib.ListN.{length, take, drop}
use lib.Seq.{length-take-le}
use borrow.Author.Tests.{leb-false}
use Rattle.grammar.specs.Tables.{Row, publish_row, subscribe_row, ack_row, unsubscribe_row, reasons_of, kinds, row_of_kind}
use Rattle.grammar.specs.Record.{PropOf, all_of, PublishProps, Props, publish, ack, subscribe, reply, unsubscribe}
use Rattle.grammar.specs.Record as record_of
use Rattle.grammar.specs.Sentence.{Value, Prop, some_of, Packet}
use Rattle.reading.specs.Refusal.{accepted}
use Rattle.reading.specs.Reader.{Fit, got, bad, Reader, Filler, ◌>>◌, guard, many_fit, only_fit}
use Rattle.reading.specs.Read.{some_fit, as_bytes, property_of, properties_fit, text_of, filter_of, reasons_fit, filters_fit, topics_fit}
use Rattle.reading.specs.Place.{Span, part_of, lies_in, as_places, no_item, or_no_item, again, values_at, if_some, say_val, say_publish_props, say_props, say, OnBoth}
use Rattle.reading.proofs.Lists.{T_of}
use Rattle.reading.proofs.Reading.{bad_got, got_inj, from_got, from_bind, from_guard}
use Rattle.reading.proofs.Forget.{Like, gots, bads, Reading}
use Rattle.reading.proofs.Places.{properties_says, filters_says, topics_says}
use Rattle.reading.proofs.Items.{again_like, all_says, if_some_lem}
use Rattle.c_arguments.specs.UpTo.{up_to}
use Rattle.c_arguments.proofs.UpTo.{up_within}
use Rattle.positions.specs.Position.{from_at}
use Rattle.positions.proofs.At.{part_slice}
use Rattle.positions.proofs.Less.{text_less, property_less, once_many, filter_less}
use Rattle.positions.proofs.Run.{none_passed, passed_end, passed_bad, passed_next, item_ahead}
use Rattle.positions.proofs.Trails.{Trails, trails_text, trails_property, trails_filter}
use Rattle.positions.proofs.Walk.{Less}
use Rattle.records.specs.AsNumbers.{told_span, told_ack_kind, told_reply_kind}
use Rattle.records.specs.Said.{told_publish_properties, told_properties, told_publish_block, told_block, told_publish, told_subscribe, told_ack, told_reply, told_unsubscribe}
use Rattle.records.specs.declared.span.Bounds.{Bounds}
use Rattle.records.specs.declared.packet_record.Packet as code
use Rattle.records.specs.declared.ack_record.Ack.{Ack}
use Rattle.records.specs.declared.ack_record.AckKind.{AckKind}
use Rattle.records.specs.declared.properties_record.Properties.{Properties}
use Rattle.records.specs.declared.publish_record.Publish.{Publish}
use Rattle.records.specs.declared.publish_record.PublishProperties.{PublishProperties}
use Rattle.records.specs.declared.reply_record.Reply.{Reply}
use Rattle.records.specs.declared.reply_record.ReplyKind.{ReplyKind}
use Rattle.records.specs.declared.subscribe_record.Subscribe.{Subscribe}
use Rattle.records.specs.declared.unsubscribe_record.Unsubscribe.{Unsubscribe}
use Rattle.packet.specs.PacketRead.{Meets, Says}
use Rattle.promises.specs.Walk.{Walked, arrived, onward, Walks, next_filter, next_topic, UserWalk, PublishWalk, FilterWalk, TopicWalk}
use Rattle.promises.proofs.Reading.{record_says}
use Rattle.promises.proofs.Items.{present}
use Rattle.records.specs.Answered.{ReadResult}

-- ---- a walk gives one list

-- from two indices that are one
one_from : {A : Type 0} {item : ℕ → Fit (A × ℕ)} {end at at' : ℕ} {vs ws : List A} → at ≡ at' → Walked item end at vs → Walked item end at' ws → vs ≡ ws
one_from q arrived arrived = refl
one_from q arrived (onward h e w) = absurd (omega arith)
one_from q (onward h e w) arrived = absurd (omega arith)
one_from {A = A} {item = item} q (onward {next = n} {a = a} {vs = vs} h e w) (onward {next = m} {a = b} {vs = ws} h' e' w') =
    let i : ◌≡◌ {A = A × ℕ} (a, n) (b, m) = got_inj (sym e ∙ (ap item q ∙ e')) in
    let j : vs ≡ ws = one_from (ap (λ (z : A × ℕ). z.1) i) w w' in
    rw (ap (λ (z : A × ℕ). z.0) i, j)

pub one_walk : {A : Type 0} {item : ℕ → Fit (A × ℕ)} {end at : ℕ} {vs ws : List A} → Walked item end at vs → Walked item end at ws → vs ≡ ws
one_walk v w = one_from refl v w

-- ---- any reader, again and again from an index of s to its end

module _ {A : Type 0} (p : Reader A) (s : List ℕ) (L : Less (length s) p) (T : Trails p) where
  -- what is read from an index on is walked from there
  abbrev From : ℕ → Type 0
  From at = (vs : List A) → many_fit p (drop at s) ≡ got vs → Walked (from_at p s) (length s) at vs

  from_end : (at : ℕ) → at ≡ length s → From at
  from_end at h vs e =
      let i : [] ≡ vs = got_inj (sym (passed_end s L (none_passed s L at) (omega arith)) ∙ e) in
      subst (Walked (from_at p s) (length s) at) i (subst (λ (n : ℕ). Walked (from_at p s) (length s) n []) (sym h) arrived)

  from_item : (at : ℕ) → at < length s → ((next : ℕ) → at < next → next ≤ length s → From next) → (m : Fit (A × ℕ)) → from_at p s at ≡ m → From at
  from_item at h ih (bad k) i vs e = absurd (bad_got (sym (passed_bad s L (none_passed s L at) h k i) ∙ e))
  from_item at h ih (got (v, next)) i vs e =
      let (a, b) = item_ahead s L T h i in
      from_bind (many_fit p (drop next s)) _ (λ ws j. from_got (Walked (from_at p s) (length s) at) (v ∷ ws) (onward h i (ih next a b ws j))) vs
      (sym (passed_next s L (none_passed s L at) T h i).rest ∙ e)

  -- f bounds what is left
  walks_from : (f at : ℕ) → at ≤ length s → length s - at ≤ f → From at
  walks_from zero at h b = from_end at (omega arith)
  walks_from (suc f) at h b = go (leb (length s) at) refl (λ next a c. walks_from f next c (omega arith))
    where
      go : (t : Bool) → leb (length s) at ≡ t → ((next : ℕ) → at < next → next ≤ length s → From next) → From at
      go true o ih = let c : length s ≤ at = leb→le (length s) at (T_of (leb (length s) at) o) in from_end at (omega arith)
      go false o ih = from_item at (leb-false (length s) at o) ih (from_at p s at) refl

-- ---- at a place

-- a list at a place lies within the bytes, and fills it
again_got : {A : Type 0} (q : ℕ → Filler A) (s : List ℕ) (p : Span) (v : A) → again q s p ≡ got v → (p.start + p.len ≤ length s) × (q (p.start + p.len) (part_of s p) ≡ got v)
unfolding again
again_got {A = A} q s p v = go (lies_in s p) refl (q (p.start + p.len) (part_of s p))
  where
    go : (t : Bool) → lies_in s p ≡ t → (m : Fit A) → (guard t no_item >> or_no_item m) ≡ got v → (p.start + p.len ≤ length s) × (m ≡ got v)
    go true h (got a) e = (leb→le (p.start + p.len) (length s) (T_of (lies_in s p) h), e)
    go true h (bad k) e = absurd (bad_got e)
    go false h m e = absurd (bad_got e)

-- what is walked before the end is walked up to it
up_to_walked : {A : Type 0} (item : List ℕ → ℕ → Fit (A × ℕ)) (s : List ℕ) (end : ℕ) → end ≤ length s → {at : ℕ} {vs : List A} → Walked (item (take end s)) end at vs → Walked (λ at. up_to (λ t. item t at) s end) end at vs
up_to_walked item s end h arrived = arrived
up_to_walked item s end h (onward {at = at} l e w) = onward l (up_within (λ t. item t at) s end h ∙ e) (up_to_walked item s end h w)

module _ {A : Type 0} (p : ℕ → Reader A) (L : (end : ℕ) → Less end (p end)) (T : (end : ℕ) → Trails (p end)) (s : List ℕ) (b : Span) (vs : List A) where
  -- so from the start of a place, over the stream up to its end
  walks : b.start + b.len ≤ length s → many_fit (p (b.start + b.len)) (part_of s b) ≡ got vs → Walks (λ t. from_at (p (length t)) t) s b vs
  walks h e =
      let t : List ℕ = take (b.start + b.len) s in
      let n : length t ≡ b.start + b.len = length-take-le (b.start + b.len) s h in
      let i : many_fit (p (length t)) (drop b.start t) ≡ got vs = rw (n, sym (part_slice s b.len b.start h)) e in
      record {
        within = h;
        walked = up_to_walked (λ u. from_at (p (length u)) u) s (b.start + b.len) h (subst (λ (end : ℕ). Walked (from_at (p (length t)) t) end b.start vs) n (walks_from (p (length t)) t (L (length t)) (T (length t)) (length t) b.start (omega arith) (omega arith) vs i));
      }

module _ (s : List ℕ) (p : Span) where
  -- header, `ecch_property`: the properties of the block at a place
  pub properties_walk : (row : Row) (ps : List (PropOf Span)) → again (properties_fit as_places row) s p ≡ got ps → Walks (λ t. from_at (property_of as_places row (length t)) t) s p ps
  unfolding properties_fit
  properties_walk row ps e =
      let (h, i) = again_got (properties_fit as_places row) s p ps e in
      walks (property_of as_places row) (property_less row) (λ end. trails_property as_places end row) s p ps h (once_many as_places row (p.start + p.len) [] (part_of s p) ps i)

-- entries of the run at a place
entries_walk : {A : Type 0} (q : ℕ → Reader A) → ((end : ℕ) → Less end (q end)) → ((end : ℕ) → Trails (q end)) → (s : List ℕ) (p : Span) (fs : List A)
    → again (λ end. some_fit (q end)) s p ≡ got fs → Walks (λ t. from_at (q (length t)) t) s p fs
unfolding only_fit
entries_walk {A = A} q L T s p fs e =
    let (h, i) = again_got (λ end. some_fit (q end)) s p fs e in
    walks q L T s p fs h
    (from_bind (many_fit (q (p.start + p.len)) (part_of s p)) _ (λ gs j. from_guard (some_of gs) _ _ λ _. from_got (λ (z : List A). many_fit (q (p.start + p.len)) (part_of s p) ≡ got z) gs j) fs i)

module _ (s : List ℕ) (p : Span) where
  -- header, `ecch_next_filter`: the filters of the run at a place
  pub filters_walk : (fs : List (record_of.Filter Span)) → again (filters_fit as_places) s p ≡ got fs → Walks next_filter s p fs
  unfolding filters_fit
  filters_walk fs e = entries_walk (filter_of as_places) filter_less (trails_filter as_places) s p fs e

  -- header, `ecch_next_topic`: the topics
  pub topics_walk : (ts : List Span) → again (topics_fit as_places) s p ≡ got ts → Walks next_topic s p ts
  unfolding topics_fit
  topics_walk ts e = entries_walk (text_of as_places) text_less (trails_text as_places) s p ts e

-- ---- of a record that says a sentence

-- where the second is a value, so is the first
like_there : {A B : Type 0} {R : A → B → Type 0} (m : Fit A) (m' : Fit B) (b : B) → Like R m m' → m' ≡ got b → (a : A) × (m ≡ got a) × R a b
like_there {R = R} _ _ b (gots {a = a} {b = b'} r) i = (a, refl, subst (R a) (got_inj i) r)
like_there _ _ b bads i = absurd (bad_got i)

module _ (s : List ℕ) where
  -- ---- what is read in bytes at a place is walked there, and said

  block_walk : (row : Row) (p : Span) (qs : List Prop) → again (properties_fit as_bytes row) s p ≡ got qs
      → (ps : List (PropOf Span)) × Walks (λ t. from_at (property_of as_places row (length t)) t) s p ps × ((i : ℕ) → map (say_val s) (all_of i ps) ≡ all_of i qs)
  block_walk row p qs e =
      let (ps, j, r) = like_there (again (properties_fit as_places row) s p) (again (properties_fit as_bytes row) s p) qs (again_like s (properties_says s row) p) e in
      (ps, properties_walk s p row ps j, λ i. all_says s i ps ∙ ap (all_of i) r)

  run_walk : (p : Span) (fs : List (record_of.Filter (List ℕ))) → again (filters_fit as_bytes) s p ≡ got fs → FilterWalk s p fs
  run_walk p fs e =
      let (gs, j, r) = like_there (again (filters_fit as_places) s p) (again (filters_fit as_bytes) s p) fs (again_like s (filters_says s) p) e in
      (gs, filters_walk s p gs j, r)

  topic_run_walk : (p : Span) (ts : List (List ℕ)) → again (topics_fit as_bytes) s p ≡ got ts → TopicWalk s p ts
  topic_run_walk p ts e =
      let (gs, j, r) = like_there (again (topics_fit as_places) s p) (again (topics_fit as_bytes) s p) ts (again_like s (topics_says s) p) e in
      (gs, topics_walk s p gs j, r)

  user_walk : (kind : ℕ) (row : Row) → row_of_kind kind ≡ some row → (p : Span) (us : List Value) → values_at as_bytes s p row 38 ≡ got us → UserWalk kind s p us
  unfolding values_at
  user_walk kind row h p = from_bind (again (properties_fit as_bytes row) s p) _ λ qs e.
      let (ps, w, l) = block_walk row p qs e in
      from_got (UserWalk kind s p) (all_of 38 qs) (ps, rw h w, l 38)

  publish_block_walk : (p : PublishProperties) (qs : PublishProps (List ℕ) List) → say_publish_props s (told_publish_properties p) ≡ got qs → PublishWalk s (told_span p.block) qs.user qs.subscriptions
  unfolding values_at row_of_kind kinds
  publish_block_walk p = go (again (properties_fit as_bytes publish_row) s (told_span p.block)) refl
    where
      go : (m : Fit (List Prop)) → again (properties_fit as_bytes publish_row) s (told_span p.block) ≡ m → (qs : PublishProps (List ℕ) List) → say_publish_props s (told_publish_properties p) ≡ got qs
          → PublishWalk s (told_span p.block) qs.user qs.subscriptions
      go (got vs) e qs f =
          let (ps, w, l) = block_walk publish_row (told_span p.block) vs e in
          from_got (λ (z : PublishProps (List ℕ) List). PublishWalk s (told_span p.block) z.user z.subscriptions) _ (ps, w, l 38, l 11) qs (rw e at f)
      go (bad k) e qs f = absurd (bad_got (rw e at f))

  props_walk : (kind : ℕ) (row : Row) → row_of_kind kind ≡ some row → (p : Properties) (qs : Props (List ℕ) List) → say_props s row (told_properties p) ≡ got qs → UserWalk kind s (told_span p.block) qs.user
  props_walk kind row h p = from_bind (values_at as_bytes s (told_span p.block) row 38) _ λ us e.
      from_got (λ (qs : Props (List ℕ) List). UserWalk kind s (told_span p.block) qs.user) _ (user_walk kind row h (told_span p.block) us e)

  block_walks : (kind : ℕ) (row : Row) → row_of_kind kind ≡ some row → {w : Option (Props (List ℕ) List)} (b : std.Option Properties) (p : Properties) → OnBoth (Reading (say_props s row)) (told_block b) w → b ≡ Some p
      → (qs : Props (List ℕ) List) × (w ≡ some qs) × UserWalk kind s (told_span p.block) qs.user
  block_walks kind row h b p o f =
      let (qs, k, l) = present o (told_properties p) (ap told_block f) in
      (qs, k, props_walk kind row h p qs l)

  -- ---- the sentence that a record says, by its kind

  says_publish : (m : record_of.Publish Span (λ A. Span)) (v : Packet) → say s (publish m) ≡ got v
      → (w : record_of.Publish (List ℕ) List) × (v ≡ publish w) × OnBoth (Reading (say_publish_props s)) m.props w.props
  says_publish m = from_bind (if_some (say_publish_props s) m.props) _ λ ps e.
      from_got (λ (v : Packet). (w : record_of.Publish (List ℕ) List) × (v ≡ publish w) × OnBoth (Reading (say_publish_props s)) m.props w.props) _
      (_, refl, if_some_lem (say_publish_props s) (λ a b h. h) m.props ps e)

  says_ack : (k : ℕ) (m : record_of.Ack Span (λ A. Span)) (v : Packet) → say s (ack k m) ≡ got v
      → (w : record_of.Ack (List ℕ) List) × (v ≡ ack k w) × OnBoth (Reading (say_props s ack_row)) m.props w.props
  says_ack k m = from_bind (if_some (say_props s ack_row) m.props) _ λ ps e.
      from_got (λ (v : Packet). (w : record_of.Ack (List ℕ) List) × (v ≡ ack k w) × OnBoth (Reading (say_props s ack_row)) m.props w.props) _
      (_, refl, if_some_lem (say_props s ack_row) (λ a b h. h) m.props ps e)

  says_subscribe : (m : record_of.Subscribe Span (λ A. Span)) (v : Packet) → say s (subscribe m) ≡ got v
      → (w : record_of.Subscribe (List ℕ) List) × (v ≡ subscribe w) × OnBoth (Reading (say_props s subscribe_row)) m.props w.props × FilterWalk s m.filters w.filters
  says_subscribe m = from_bind (if_some (say_props s subscribe_row) m.props) _ λ ps e. from_bind (again (filters_fit as_bytes) s m.filters) _ λ fs e'.
      from_got (λ (v : Packet). (w : record_of.Subscribe (List ℕ) List) × (v ≡ subscribe w) × OnBoth (Reading (say_props s subscribe_row)) m.props w.props × FilterWalk s m.filters w.filters) _
      (_, refl, if_some_lem (say_props s subscribe_row) (λ a b h. h) m.props ps e, run_walk m.filters fs e')

  says_reply : (k : ℕ) (m : record_of.Reply Span (λ A. Span)) (v : Packet) → say s (reply k m) ≡ got v
      → (w : record_of.Reply (List ℕ) List) × (v ≡ reply k w) × OnBoth (Reading (say_props s ack_row)) m.props w.props
  says_reply k m = from_bind (if_some (say_props s ack_row) m.props) _ λ ps e. from_bind (again (reasons_fit (reasons_of k)) s m.reasons) _ λ fs e'.
      from_got (λ (v : Packet). (w : record_of.Reply (List ℕ) List) × (v ≡ reply k w) × OnBoth (Reading (say_props s ack_row)) m.props w.props) _
      (_, refl, if_some_lem (say_props s ack_row) (λ a b h. h) m.props ps e)

  says_unsubscribe : (m : record_of.Unsubscribe Span (λ A. Span)) (v : Packet) → say s (unsubscribe m) ≡ got v
      → (w : record_of.Unsubscribe (List ℕ) List) × (v ≡ unsubscribe w) × OnBoth (Reading (say_props s unsubscribe_row)) m.props w.props × TopicWalk s m.topics w.topics
  says_unsubscribe m = from_bind (if_some (say_props s unsubscribe_row) m.props) _ λ ps e. from_bind (again (topics_fit as_bytes) s m.topics) _ λ fs e'.
      from_got (λ (v : Packet). (w : record_of.Unsubscribe (List ℕ) List) × (v ≡ unsubscribe w) × OnBoth (Reading (say_props s unsubscribe_row)) m.props w.props × TopicWalk s m.topics w.topics) _
      (_, refl, if_some_lem (say_props s unsubscribe_row) (λ a b h. h) m.props ps e, topic_run_walk m.topics fs e')

-- the rows of the kinds that share a layout
ack_row_lem : (k : AckKind) → row_of_kind (told_ack_kind k) ≡ some ack_row
unfolding row_of_kind kinds
ack_row_lem AckKind.PubAck = refl
ack_row_lem AckKind.PubRec = refl
ack_row_lem AckKind.PubRel = refl
ack_row_lem AckKind.PubComp = refl

reply_row : (k : ReplyKind) → row_of_kind (told_reply_kind k) ≡ some ack_row
unfolding row_of_kind kinds
reply_row ReplyKind.SubAck = refl
reply_row ReplyKind.UnsubAck = refl

-- ---- of an answer that meets the contract of `packet::read`

module _ (limit : std.Option ℕ) (s : List ℕ) (r : ReadResult) (h : Meets limit s r) (o : Bounds) (n : ℕ) where
  -- user properties and subscription identifiers of a Publish that has a block
  pub publish_walk : (m : Publish) (p : PublishProperties) → r ≡ Ok (code.Packet.Publish m, o, n) → m.properties ≡ Some p
      → (w : record_of.Publish (List ℕ) List) × (qs : PublishProps (List ℕ) List)
      × Says s r (accepted (publish w) n) × (w.props ≡ some qs) × PublishWalk s (told_span p.block) qs.user qs.subscriptions
  publish_walk m p e f =
      let (v, i, a) = record_says limit s r h (code.Packet.Publish m) o n e in
      let (w, j, b) = says_publish s (told_publish m) v i in
      let (qs, k, l) = present b (told_publish_properties p) (ap told_publish_block f) in
      (w, qs, subst (λ (x : Packet). Says s r (accepted x n)) j a, k, publish_block_walk s p qs l)

  -- user properties of a publish acknowledgement that has a block
  pub ack_walk : (k : AckKind) (m : Ack) (p : Properties) → r ≡ Ok (code.Packet.Ack k m, o, n) → m.properties ≡ Some p
      → (w : record_of.Ack (List ℕ) List) × (qs : Props (List ℕ) List) × Says s r (accepted (ack (told_ack_kind k) w) n) × (w.props ≡ some qs) × UserWalk (told_ack_kind k) s (told_span p.block) qs.user
  ack_walk k m p e f =
      let (v, i, a) = record_says limit s r h (code.Packet.Ack k m) o n e in
      let (w, j, b) = says_ack s (told_ack_kind k) (told_ack m) v i in
      let (qs, k', l) = block_walks s (told_ack_kind k) ack_row (ack_row_lem k) m.properties p b f in
      (w, qs, subst (λ (x : Packet). Says s r (accepted x n)) j a, k', l)

  -- user properties of a Subscribe that has a block
  pub subscribe_walk : (m : Subscribe) (p : Properties) → r ≡ Ok (code.Packet.Subscribe m, o, n) → m.properties ≡ Some p
      → (w : record_of.Subscribe (List ℕ) List) × (qs : Props (List ℕ) List) × Says s r (accepted (subscribe w) n) × (w.props ≡ some qs) × UserWalk 8 s (told_span p.block) qs.user
  unfolding row_of_kind kinds
  subscribe_walk m p e f =
      let (v, i, a) = record_says limit s r h (code.Packet.Subscribe m) o n e in
      let (w, j, b, g) = says_subscribe s (told_subscribe m) v i in
      let (qs, k', l) = block_walks s 8 subscribe_row refl m.properties p b f in
      (w, qs, subst (λ (x : Packet). Says s r (accepted x n)) j a, k', l)

  -- user properties of a SubAck or UnsubAck that has a block
  pub reply_walk : (k : ReplyKind) (m : Reply) (p : Properties) → r ≡ Ok (code.Packet.Reply k m, o, n) → m.properties ≡ Some p
      → (w : record_of.Reply (List ℕ) List) × (qs : Props (List ℕ) List) × Says s r (accepted (reply (told_reply_kind k) w) n) × (w.props ≡ some qs) × UserWalk (told_reply_kind k) s (told_span p.block) qs.user
  reply_walk k m p e f =
      let (v, i, a) = record_says limit s r h (code.Packet.Reply k m) o n e in
      let (w, j, b) = says_reply s (told_reply_kind k) (told_reply m) v i in
      let (qs, k', l) = block_walks s (told_reply_kind k) ack_row (reply_row k) m.properties p b f in
      (w, qs, subst (λ (x : Packet). Says s r (accepted x n)) j a, k', l)

  -- user properties of an Unsubscribe that has a block
  pub unsubscribe_walk : (m : Unsubscribe) (p : Properties) → r ≡ Ok (code.Packet.Unsubscribe m, o, n) → m.properties ≡ Some p
      → (w : record_of.Unsubscribe (List ℕ) List) × (qs : Props (List ℕ) List) × Says s r (accepted (unsubscribe w) n) × (w.props ≡ some qs) × UserWalk 10 s (told_span p.block) qs.user
  unfolding row_of_kind kinds
  unsubscribe_walk m p e f =
      let (v, i, a) = record_says limit s r h (code.Packet.Unsubscribe m) o n e in
      let (w, j, b, g) = says_unsubscribe s (told_unsubscribe m) v i in
      let (qs, k', l) = block_walks s 10 unsubscribe_row refl m.properties p b f in
      (w, qs, subst (λ (x : Packet). Says s r (accepted x n)) j a, k', l)

  -- filters of a Subscribe
  pub filter_walk : (m : Subscribe) → r ≡ Ok (code.Packet.Subscribe m, o, n) → (w : record_of.Subscribe (List ℕ) List) × Says s r (accepted (subscribe w) n) × FilterWalk s (told_span m.filters) w.filters
  filter_walk m e =
      let (v, i, a) = record_says limit s r h (code.Packet.Subscribe m) o n e in
      let (w, j, b, g) = says_subscribe s (told_subscribe m) v i in
      (w, subst (λ (x : Packet). Says s r (accepted x n)) j a, g)

  -- topics of an Unsubscribe
  pub topic_walk : (m : Unsubscribe) → r ≡ Ok (code.Packet.Unsubscribe m, o, n) → (w : record_of.Unsubscribe (List ℕ) List) × Says s r (accepted (unsubscribe w) n) × TopicWalk s (told_span m.topics) w.topics
  topic_walk m e =
      let (v, i, a) = record_says limit s r h (code.Packet.Unsubscribe m) o n e in
      let (w, j, b, g) = says_unsubscribe s (told_unsubscribe m) v i in
      (w, subst (λ (x : Packet). Says s r (accepted x n)) j a, g)
