-- Reading back: what `packet::read` answers, with no limit, to a stream that begins with what was written. Assumes nothing.
use Rattle.std.specs.Prelude.{Option, Some, None, Result, Ok}
use mathlib.Core.Path.{◌≡◌, refl, sym, ap, subst, ◌∙◌}
use mathlib.Core.Bool.{Bool, true, false, cond}
use mathlib.Core.Option.{none, some}
use mathlib.Core.List.{List, ◌++◌, map}
use Prim.Native.Nat.{ℕ, ◌<◌}
use native.Mathlib.Omega.{arith}
use lib.Dec.{eqb}
use lib.ListN.{drop}
use Rattle.grammar.specs.Choice.{lookup, is_empty, all}
use Rattle.grammar.specs.Tables.{publish_row, subscribe_row, ack_row, unsubscribe_row, reasons_of, an_ack, a_reply, kinds}
use Rattle.grammar.specs.Record.{num, mk_filter, PublishProps, Props}
use Rattle.grammar.specs.Record as record_of
use Rattle.grammar.specs.Sentence.{Packet, Sentence}
use Rattle.reading.specs.Refusal.{accepted}
use Rattle.reading.specs.Reader.{got}
use Rattle.reading.specs.Place.{say}
use Rattle.reading.specs.Demand.{Begins}
use Rattle.reading.proofs.Reading.{got_inj}
use Rattle.reading.proofs.Items.{say_items}
use Rattle.writing.specs.Handed.{Handed, PublishHanded, SubscribeHanded, AckHanded, ReplyHanded, UnsubscribeHanded, publish, ack, subscribe, reply, unsubscribe, strings, duos, filters}
use Rattle.writing.specs.Write.{frame_bytes, WrittenBehind}
use Rattle.writing.specs.Meant.{meant, said, publish_set, subscribe_set, ack_set, unsubscribe_set, the_publish, the_ack, the_subscribe, the_reply, the_unsubscribe, none_publish, none_subscribe, none_ack, none_unsubscribe, Typed, Plain}
use Rattle.writing.proofs.Demand.{said_meant}
use Rattle.records.specs.AsNumbers.{told_bool, told_qos, told_ack_kind, told_reply_kind, limit_of}
use Rattle.records.specs.Said.{told_packet}
use Rattle.records.specs.Answered.{told_size, ReadResult}
use Rattle.records.specs.declared.span.Bounds.{Bounds}
use Rattle.records.specs.declared.packet_record.Packet as code
use Rattle.records.specs.declared.ack_record.Ack.{Ack}
use Rattle.records.specs.declared.ack_record.AckKind.{AckKind}
use Rattle.records.specs.declared.properties_record.Properties.{Properties}
use Rattle.records.specs.declared.publish_record.Publish.{Publish}
use Rattle.records.specs.declared.publish_record.PublishProperties.{PublishProperties}
use Rattle.records.specs.declared.qos.QoS.{QoS}
use Rattle.records.specs.declared.subscribe_record.Subscribe.{Subscribe}
use Rattle.records.specs.declared.reply_record.Reply.{Reply}
use Rattle.records.specs.declared.reply_record.ReplyKind.{ReplyKind}
use Rattle.records.specs.declared.unsubscribe_record.Unsubscribe.{Unsubscribe}
use Rattle.packet.specs.PacketRead.{Says}
use Rattle.packet.specs.PacketRead as reading
use Rattle.promises.specs.Reading.{PublishParts, ReasonPart, UserItems, IdentifierItems, FilterItems, ReasonItems, TopicItems}
use Rattle.promises.proofs.Reading.{sentence_read}
use Rattle.promises.proofs.Reading as promises
use Rattle.promises.proofs.Parts.{publish_parts_lem, ack_parts, reply_parts}
use Rattle.promises.proofs.Items.{publish_items, ack_items, subscribe_items, reply_items, unsubscribe_items, filter_items, reason_items, topic_items}
use Rattle.packet_write.specs.Parts.{Parts, foreign}
use Rattle.packet_write.specs.Union.{own, union_of}
use Rattle.packet_write.specs.declared.head.PacketHead.{PacketHead}
use Rattle.promises.specs.Writing.{Obeys, ReadsAs, Widths, LentOctets}
use Rattle.promises.proofs.Writing as writing
use Rattle.records.specs.declared.error.Error.{Error}

-- ---- what the types of the arguments ensure

bit_below : (b : Bool) → told_bool b < 2
bit_below true = omega arith
bit_below false = omega arith

qos_below : (q : QoS) → told_qos q < 3
qos_below QoS.AtMostOnce = omega arith
qos_below QoS.AtLeastOnce = omega arith
qos_below QoS.ExactlyOnce = omega arith

-- the kinds that share a layout are carried
ack_kind : (k : AckKind) → lookup kinds (told_ack_kind k) ≡ some (an_ack (reasons_of (told_ack_kind k)))
unfolding kinds reasons_of
ack_kind AckKind.PubAck = refl
ack_kind AckKind.PubRec = refl
ack_kind AckKind.PubRel = refl
ack_kind AckKind.PubComp = refl

reply_kind : (k : ReplyKind) → lookup kinds (told_reply_kind k) ≡ some (a_reply (reasons_of (told_reply_kind k)))
unfolding kinds reasons_of
reply_kind ReplyKind.SubAck = refl
reply_kind ReplyKind.UnsubAck = refl

pub typed : (m : PacketHead) (p : Parts) → Widths m → LentOctets p → Typed (own m p)
unfolding kinds
typed (PacketHead.Publish m) p b l = record {
  dup = bit_below m.dup;
  qos = qos_below m.qos;
  retain = bit_below m.retain;
  topic = l.topic;
  ident = b.pkid;
  format = b.format;
  expiry = b.expiry;
  alias = b.alias;
  response = l.response;
  correlation = l.correlation;
  user = l.user;
  content = l.content;
  payload = l.payload;
}
typed (PacketHead.Ack m) p b l = record { kind = ack_kind m.kind; reason = b.reason; ident = b.pkid; text = l.reason; user = l.user }
typed (PacketHead.Subscribe m) p b l = record { ident = b; user = l.user; filters = l.entry_bytes }
typed (PacketHead.Reply m) p b l = record { kind = reply_kind m.kind; ident = b; text = l.reason; user = l.user; reasons = l.entries }
typed (PacketHead.Unsubscribe m) p b l = record { ident = b; user = l.user; topics = l.entry_bytes }
typed PacketHead.PingReq p b l = refl
typed PacketHead.PingResp p b l = refl

-- ---- the record

-- the set of a Publish
publish_props_lem : {m v : record_of.Publish (List ℕ) List} → record_of.publish m ≡ record_of.publish v → m.props ≡ v.props
publish_props_lem e = cc

-- the set of an acknowledgement of a Publish
ack_props : (k : ℕ) {m v : record_of.Ack (List ℕ) List} → record_of.ack k m ≡ record_of.ack k v → m.props ≡ v.props
ack_props k e = cc

-- the set of a Subscribe, and its filters
subscribe_props : {m v : record_of.Subscribe (List ℕ) List} → record_of.subscribe m ≡ record_of.subscribe v → m.props ≡ v.props
subscribe_props e = cc

subscribe_filters : {m v : record_of.Subscribe (List ℕ) List} → record_of.subscribe m ≡ record_of.subscribe v → m.filters ≡ v.filters
subscribe_filters e = cc

-- the set of a SubAck or UnsubAck, and its reasons
reply_props : (k : ℕ) {m v : record_of.Reply (List ℕ) List} → record_of.reply k m ≡ record_of.reply k v → m.props ≡ v.props
reply_props k e = cc

reply_reasons : (k : ℕ) {m v : record_of.Reply (List ℕ) List} → record_of.reply k m ≡ record_of.reply k v → m.reasons ≡ v.reasons
reply_reasons k e = cc

-- the set of an Unsubscribe, and its topics
unsubscribe_props : {m v : record_of.Unsubscribe (List ℕ) List} → record_of.unsubscribe m ≡ record_of.unsubscribe v → m.props ≡ v.props
unsubscribe_props e = cc

unsubscribe_topics : {m v : record_of.Unsubscribe (List ℕ) List} → record_of.unsubscribe m ≡ record_of.unsubscribe v → m.topics ≡ v.topics
unsubscribe_topics e = cc

-- where a set is read, it is the one that was handed over
the_set : {A : Type 0} (t : Bool) (a b : A) → cond t none (some a) ≡ some b → a ≡ b
the_set true a b e = let z : ◌≡◌ {A = ℕ} 0 1 = cc in absurd (omega arith)
the_set false a b e = cc

module _ (limit : Option ℕ) (alone : Bool) (h : Handed) (before after : List ℕ) (w : Result ℕ Error) (m : Obeys limit alone h before after w) (n : ℕ) (i : w ≡ Ok n) (t : Typed h) where
  begins : (rest : List ℕ) → Begins Sentence (frame_bytes h ++ rest) (said h) n
  begins rest = (frame_bytes h, rest, refl, writing.frame_sentence limit alone h before after w m n i t, writing.frame_size limit alone h before after w m n i)

  module _ (rest : List ℕ) (r : ReadResult) (j : reading.Meets None (frame_bytes h ++ rest) r) where
    -- whatever follows, what is read is what the bytes say, and taken is the size
    pub reads_said : ReadsAs (frame_bytes h ++ rest) r (said h) n
    reads_said =
        let (p, o, e, f) = sentence_read (frame_bytes h ++ rest) r j (said h) n (begins rest) in
        (p, o, e, f, say_items (frame_bytes h ++ rest) (told_packet p) (said h) f)

    -- 01, "Reading back": it is the record, if "QoS 0 has identifier 0, and no property set is present but empty"
    pub reads_back : Plain h → ReadsAs (frame_bytes h ++ rest) r (meant h) n
    reads_back p =
        let a = ((writing.accepted limit h before after w alone m n).0 i).1 in
        subst (λ (v : Packet). ReadsAs (frame_bytes h ++ rest) r v n) (said_meant h a.countable.belongs p) reads_said

    -- an answer says one thing
    says_said : (v : Packet) → Says (frame_bytes h ++ rest) r (accepted v n) → said h ≡ v
    says_said v e =
        let a = (promises.succeeds (frame_bytes h ++ rest) r j (said h) n).1 (begins rest) in
        let b : accepted (said h) n ≡ accepted v n = got_inj (sym a ∙ e) in
        cc

    -- ---- the parts of a Publish, an acknowledgement and a reply, as the functions of `publish_parts` and `ack` give them

    told_by : (p : code.Packet) (o : Bounds) → r ≡ Ok (p, o, n) → say (frame_bytes h ++ rest) (told_packet p) ≡ got (said h)
    told_by p o e =
        let (q, o', f, g) = sentence_read (frame_bytes h ++ rest) r j (said h) n (begins rest) in
        let a : Ok (q, o', n) ≡ Ok (p, o, n) = sym f ∙ e in
        let t : ◌≡◌ {A = code.Packet × Bounds × ℕ} (q, o', n) (p, o, n) = cc in
        let b : q ≡ p = ap (λ z. z.0) t in
        subst (λ (x : code.Packet). say (frame_bytes h ++ rest) (told_packet x) ≡ got (said h)) b g

    pub publish_back : (x : Publish) (o : Bounds) → r ≡ Ok (code.Packet.Publish x, o, n) → (v : record_of.Publish (List ℕ) List) × (said h ≡ record_of.publish v) × PublishParts (frame_bytes h ++ rest) x v
    publish_back x o e = publish_parts_lem (frame_bytes h ++ rest) x (said h) (told_by (code.Packet.Publish x) o e)

    pub ack_back : (k : AckKind) (x : Ack) (o : Bounds) → r ≡ Ok (code.Packet.Ack k x, o, n) → (v : record_of.Ack (List ℕ) List) × (said h ≡ record_of.ack (told_ack_kind k) v) × ReasonPart (frame_bytes h ++ rest) x.properties v.props
    ack_back k x o e = ack_parts (frame_bytes h ++ rest) k x (said h) (told_by (code.Packet.Ack k x) o e)

    pub reply_back : (k : ReplyKind) (x : Reply) (o : Bounds) → r ≡ Ok (code.Packet.Reply k x, o, n) → (v : record_of.Reply (List ℕ) List) × (said h ≡ record_of.reply (told_reply_kind k) v) × ReasonPart (frame_bytes h ++ rest) x.properties v.props
    reply_back k x o e = reply_parts (frame_bytes h ++ rest) k x (said h) (told_by (code.Packet.Reply k x) o e)

  -- the output itself, read
  pub output_read : (r : ReadResult) → reading.Meets None after r → ReadsAs after r (said h) n
  output_read r j =
      let e = writing.frame_out limit alone h before after w m n i in
      subst (λ (s : List ℕ). ReadsAs s r (said h) n) (sym e) (reads_said (drop n before) r (subst (λ (s : List ℕ). reading.Meets None s r) e j))

-- ---- the items, as the functions of `items`, `filter_runs` and `entry_runs` give them: the lists that were handed over, in order, and then 21

module _ (limit : Option ℕ) (alone : Bool) (before after : List ℕ) (w : Result ℕ Error) (n : ℕ) (i : w ≡ Ok n) (rest : List ℕ) (r : ReadResult) (o : Bounds) where
  pub publish_items_back : (h : PublishHanded) → Obeys limit alone (publish h) before after w → Typed (publish h) → reading.Meets None (frame_bytes (publish h) ++ rest) r
      → (x : Publish) (p : PublishProperties) → r ≡ Ok (code.Packet.Publish x, o, n) → x.properties ≡ Some p
      → UserItems (frame_bytes (publish h) ++ rest) publish_row p.block (duos (strings h.user)) × IdentifierItems (frame_bytes (publish h) ++ rest) p.block (map num h.subscriptions)
  unfolding said
  publish_items_back h m t j x p e f =
      let s = frame_bytes (publish h) ++ rest in
      let (v, qs, a, b, us, ns) = publish_items None s r j o n x p e f in
      let c : ◌≡◌ {A = Packet} (said (publish h)) (record_of.publish v) = says_said limit alone (publish h) before after w m n i t rest r j (record_of.publish v) a in
      let d : publish_set h ≡ qs = the_set (none_publish h) (publish_set h) qs (publish_props_lem c ∙ b) in
      (subst (λ (q : PublishProps (List ℕ) List). UserItems s publish_row p.block q.user) (sym d) us, subst (λ (q : PublishProps (List ℕ) List). IdentifierItems s p.block q.subscriptions) (sym d) ns)

  pub ack_items_back : (k : AckKind) (h : AckHanded) → Obeys limit alone (ack (told_ack_kind k) h) before after w → Typed (ack (told_ack_kind k) h) → reading.Meets None (frame_bytes (ack (told_ack_kind k) h) ++ rest) r
      → (x : Ack) (p : Properties) → r ≡ Ok (code.Packet.Ack k x, o, n) → x.properties ≡ Some p
      → UserItems (frame_bytes (ack (told_ack_kind k) h) ++ rest) ack_row p.block (duos (strings h.user))
  unfolding said
  ack_items_back k h m t j x p e f =
      let s = frame_bytes (ack (told_ack_kind k) h) ++ rest in
      let (v, qs, a, b, us) = ack_items None s r j o n k x p e f in
      let c : ◌≡◌ {A = Packet} (said (ack (told_ack_kind k) h)) (record_of.ack (told_ack_kind k) v) = says_said limit alone (ack (told_ack_kind k) h) before after w m n i t rest r j (record_of.ack (told_ack_kind k) v) a in
      let d : ack_set h.text h.user ≡ qs = the_set (none_ack h.text h.user) (ack_set h.text h.user) qs (ack_props (told_ack_kind k) c ∙ b) in
      subst (λ (q : Props (List ℕ) List). UserItems s ack_row p.block q.user) (sym d) us

  pub subscribe_items_back : (h : SubscribeHanded) → Obeys limit alone (subscribe h) before after w → Typed (subscribe h) → reading.Meets None (frame_bytes (subscribe h) ++ rest) r
      → (x : Subscribe) (p : Properties) → r ≡ Ok (code.Packet.Subscribe x, o, n) → x.properties ≡ Some p
      → UserItems (frame_bytes (subscribe h) ++ rest) subscribe_row p.block (duos (strings h.user))
  unfolding said
  subscribe_items_back h m t j x p e f =
      let s = frame_bytes (subscribe h) ++ rest in
      let (v, qs, a, b, us) = subscribe_items None s r j o n x p e f in
      let c : ◌≡◌ {A = Packet} (said (subscribe h)) (record_of.subscribe v) = says_said limit alone (subscribe h) before after w m n i t rest r j (record_of.subscribe v) a in
      let d : subscribe_set h ≡ qs = the_set (none_subscribe h) (subscribe_set h) qs (subscribe_props c ∙ b) in
      subst (λ (q : Props (List ℕ) List). UserItems s subscribe_row p.block q.user) (sym d) us

  pub reply_items_back : (k : ReplyKind) (h : ReplyHanded) → Obeys limit alone (reply (told_reply_kind k) h) before after w → Typed (reply (told_reply_kind k) h) → reading.Meets None (frame_bytes (reply (told_reply_kind k) h) ++ rest) r
      → (x : Reply) (p : Properties) → r ≡ Ok (code.Packet.Reply k x, o, n) → x.properties ≡ Some p
      → UserItems (frame_bytes (reply (told_reply_kind k) h) ++ rest) ack_row p.block (duos (strings h.user))
  unfolding said
  reply_items_back k h m t j x p e f =
      let s = frame_bytes (reply (told_reply_kind k) h) ++ rest in
      let (v, qs, a, b, us) = reply_items None s r j o n k x p e f in
      let c : ◌≡◌ {A = Packet} (said (reply (told_reply_kind k) h)) (record_of.reply (told_reply_kind k) v) = says_said limit alone (reply (told_reply_kind k) h) before after w m n i t rest r j (record_of.reply (told_reply_kind k) v) a in
      let d : ack_set h.text h.user ≡ qs = the_set (none_ack h.text h.user) (ack_set h.text h.user) qs (reply_props (told_reply_kind k) c ∙ b) in
      subst (λ (q : Props (List ℕ) List). UserItems s ack_row p.block q.user) (sym d) us

  pub unsubscribe_items_back : (h : UnsubscribeHanded) → Obeys limit alone (unsubscribe h) before after w → Typed (unsubscribe h) → reading.Meets None (frame_bytes (unsubscribe h) ++ rest) r
      → (x : Unsubscribe) (p : Properties) → r ≡ Ok (code.Packet.Unsubscribe x, o, n) → x.properties ≡ Some p
      → UserItems (frame_bytes (unsubscribe h) ++ rest) unsubscribe_row p.block (duos (strings h.user))
  unfolding said
  unsubscribe_items_back h m t j x p e f =
      let s = frame_bytes (unsubscribe h) ++ rest in
      let (v, qs, a, b, us) = unsubscribe_items None s r j o n x p e f in
      let c : ◌≡◌ {A = Packet} (said (unsubscribe h)) (record_of.unsubscribe v) = says_said limit alone (unsubscribe h) before after w m n i t rest r j (record_of.unsubscribe v) a in
      let d : unsubscribe_set h.user ≡ qs = the_set (none_unsubscribe h.user) (unsubscribe_set h.user) qs (unsubscribe_props c ∙ b) in
      subst (λ (q : Props (List ℕ) List). UserItems s unsubscribe_row p.block q.user) (sym d) us

  pub filter_items_back : (h : SubscribeHanded) → Obeys limit alone (subscribe h) before after w → Typed (subscribe h) → reading.Meets None (frame_bytes (subscribe h) ++ rest) r
      → (x : Subscribe) → r ≡ Ok (code.Packet.Subscribe x, o, n) → FilterItems (frame_bytes (subscribe h) ++ rest) x.filters (map mk_filter (filters h))
  unfolding said
  filter_items_back h m t j x e =
      let s = frame_bytes (subscribe h) ++ rest in
      let (v, a, fs) = filter_items None s r j o n x e in
      let c : ◌≡◌ {A = Packet} (said (subscribe h)) (record_of.subscribe v) = says_said limit alone (subscribe h) before after w m n i t rest r j (record_of.subscribe v) a in
      subst (λ (l : List (record_of.Filter (List ℕ))). FilterItems s x.filters l) (sym (subscribe_filters c)) fs

  pub reason_items_back : (k : ReplyKind) (h : ReplyHanded) → Obeys limit alone (reply (told_reply_kind k) h) before after w → Typed (reply (told_reply_kind k) h) → reading.Meets None (frame_bytes (reply (told_reply_kind k) h) ++ rest) r
      → (x : Reply) → r ≡ Ok (code.Packet.Reply k x, o, n) → ReasonItems (frame_bytes (reply (told_reply_kind k) h) ++ rest) k x.reasons h.reasons
  unfolding said
  reason_items_back k h m t j x e =
      let s = frame_bytes (reply (told_reply_kind k) h) ++ rest in
      let (v, a, fs) = reason_items None s r j o n k x e in
      let c : ◌≡◌ {A = Packet} (said (reply (told_reply_kind k) h)) (record_of.reply (told_reply_kind k) v) = says_said limit alone (reply (told_reply_kind k) h) before after w m n i t rest r j (record_of.reply (told_reply_kind k) v) a in
      subst (λ (l : List ℕ). ReasonItems s k x.reasons l) (sym (reply_reasons (told_reply_kind k) c)) fs

  pub topic_items_back : (h : UnsubscribeHanded) → Obeys limit alone (unsubscribe h) before after w → Typed (unsubscribe h) → reading.Meets None (frame_bytes (unsubscribe h) ++ rest) r
      → (x : Unsubscribe) → r ≡ Ok (code.Packet.Unsubscribe x, o, n) → TopicItems (frame_bytes (unsubscribe h) ++ rest) x.topics (strings h.topics)
  unfolding said
  topic_items_back h m t j x e =
      let s = frame_bytes (unsubscribe h) ++ rest in
      let (v, a, fs) = topic_items None s r j o n x e in
      let c : ◌≡◌ {A = Packet} (said (unsubscribe h)) (record_of.unsubscribe v) = says_said limit alone (unsubscribe h) before after w m n i t rest r j (record_of.unsubscribe v) a in
      subst (λ (l : List (List ℕ)). TopicItems s x.topics l) (sym (unsubscribe_topics c)) fs

-- ---- outside the two conditions: what the bytes say instead

-- 01, grammar: "QoS 0 writes no identifier": 0 is read
pub said_no_ident : (h : PublishHanded) → h.qos ≡ 0 → said (publish h) ≡ the_publish h 0 (cond (none_publish h) none (some (publish_set h)))
unfolding said
said_no_ident h e = rw e

-- 01, "Reading back": a set present but empty "reads as absent"
pub publish_no_set : (h : PublishHanded) → none_publish h ≡ true → said (publish h) ≡ the_publish h (cond (eqb h.qos 0) 0 h.ident) none
unfolding said
publish_no_set h e = rw e

pub ack_no_set : (k : ℕ) (h : AckHanded) → none_ack h.text h.user ≡ true → said (ack k h) ≡ the_ack k h none
unfolding said
ack_no_set k h e = rw e

pub reply_no_set : (k : ℕ) (h : ReplyHanded) → none_ack h.text h.user ≡ true → said (reply k h) ≡ the_reply k h none
unfolding said
reply_no_set k h e = rw e

pub unsubscribe_no_set : (h : UnsubscribeHanded) → none_unsubscribe h.user ≡ true → said (unsubscribe h) ≡ the_unsubscribe h none
unfolding said
unsubscribe_no_set h e = rw e

pub subscribe_no_set : (h : SubscribeHanded) → none_subscribe h ≡ true → said (subscribe h) ≡ the_subscribe h none
unfolding said
subscribe_no_set h e = rw e

-- ---- all of it, of `packet_write::write`

pub packet_reads_back : (limit : Option ℕ) (m : PacketHead) (p : Parts) (before after : List ℕ) (w : Result ℕ Error) → WrittenBehind (limit_of limit) (union_of m p) before after (told_size w) → Widths m → LentOctets p
    → (n : ℕ) → w ≡ Ok n → Plain (own m p) → (r : ReadResult) → reading.Meets None after r → ReadsAs after r (meant (own m p)) n
packet_reads_back limit m p before after w c b l n i q r j =
    let d = writing.of_packet limit m p before after w c in
    let k = writing.frame_out limit (all is_empty (foreign m p)) (own m p) before after w d n i in
    subst (λ (s : List ℕ). ReadsAs s r (meant (own m p)) n) (sym k)
    (reads_back limit (all is_empty (foreign m p)) (own m p) before after w d n i (typed m p b l) (drop n before) r (subst (λ (s : List ℕ). reading.Meets None s r) k j) q)
