-- The n-th items of a record that was read: the answers of the item functions, each by its contract, are the lists of the sentence in
-- order, and then 21. Assumes nothing.
use Rattle.std.specs.Prelude as std
use Rattle.std.specs.Prelude.{Some, Ok}
use mathlib.Core.Path.{◌≡◌, refl, ap, ◌∙◌, subst}
use mathlib.Core.Option.{Option, some}
use mathlib.Core.List.{List}
use Prim.Native.Nat.{ℕ}
use native.Mathlib.Omega.{arith}
use Rattle.grammar.specs.Tables.{Row, publish_row, subscribe_row, ack_row, unsubscribe_row, reasons_of}
use Rattle.grammar.specs.Record.{PublishProps, Props, publish, ack, subscribe, reply, unsubscribe}
use Rattle.grammar.specs.Record as record_of
use Rattle.grammar.specs.Sentence.{Packet}
use Rattle.reading.specs.Refusal.{accepted}
use Rattle.reading.specs.Reader.{Fit, got, bad}
use Rattle.reading.specs.Place.{as_places, Placed, filter_at, reason_at, topic_at, on_got, held_of, say_val, say_filter, Lists, OnBoth, neither, each, PublishItems, PropsItems, Items, of_publish, of_ack, of_subscribe, of_reply, of_unsubscribe, of_ping}
use Rattle.reading.specs.Place as place
use Rattle.records.specs.AsNumbers.{told_span, told_ack_kind, told_reply_kind}
use Rattle.records.specs.Said.{told_publish_properties, told_properties, told_publish_block, told_block, told_publish, told_subscribe, told_ack, told_reply, told_unsubscribe}
use Rattle.records.specs.declared.span.Bounds.{Bounds}
use Rattle.records.specs.declared.packet_record.Packet as code
use Rattle.records.specs.declared.ack_record.Ack.{Ack}
use Rattle.records.specs.declared.ack_record.AckKind.{AckKind}
use Rattle.records.specs.declared.properties_record.Properties.{Properties}
use Rattle.records.specs.declared.publish_record.Publish.{Publish}
use Rattle.records.specs.declared.publish_record.PublishProperties.{PublishProperties}
use Rattle.records.specs.declared.reply_record.Reply.{Reply}
use Rattle.records.specs.declared.reply_record.ReplyKind.{ReplyKind}
use Rattle.records.specs.declared.subscribe_record.Subscribe.{Subscribe}
use Rattle.records.specs.declared.unsubscribe_record.Unsubscribe.{Unsubscribe}
use Rattle.packet.specs.PacketRead.{Meets, Says}
use Rattle.promises.specs.Reading.{UserItems, IdentifierItems, FilterItems, ReasonItems, TopicItems}
use Rattle.promises.proofs.Reading.{items}
use Rattle.records.specs.Answered.{ReadResult}

-- two different constructors are not equal
never : {X : Type 0} → ◌≡◌ {A = ℕ} 0 1 → X
never z = absurd (omega arith)

-- where one of two is present, so is the other
pub present : {A B : Type 0} {R : A → B → Type 0} {o : Option A} {o' : Option B} → OnBoth R o o' → (a : A) → o ≡ some a → (b : B) × (o' ≡ some b) × R a b
present neither a e = never (cc)
present {R = R} (each {a = a'} {b = b} r) a e = let i : a' ≡ a = cc in (b, refl, subst (λ x. R x b) i r)

module _ (s : List ℕ) where
  -- ---- the lists of a record, by its kind

  of_publish_lem : {x : Placed} {v : Packet} → Items s x v → (m : record_of.Publish place.Span (λ A. place.Span)) → x ≡ publish m
      → (w : record_of.Publish (List ℕ) List) × (v ≡ publish w) × OnBoth (PublishItems s) m.props w.props
  of_publish_lem (of_publish {m = m'} {w = w} b) m e =
      let i : m' ≡ m = cc in (
        w,
        refl,
        subst (λ (n : record_of.Publish place.Span (λ A. place.Span)). OnBoth (PublishItems s) n.props w.props) i b,
      )
  of_publish_lem (of_ack b) m e = never (cc)
  of_publish_lem (of_subscribe b l) m e = never (cc)
  of_publish_lem (of_reply b l) m e = never (cc)
  of_publish_lem (of_unsubscribe b l) m e = never (cc)
  of_publish_lem of_ping m e = never (cc)

  of_ack_lem : {x : Placed} {v : Packet} → Items s x v → (k : ℕ) (m : record_of.Ack place.Span (λ A. place.Span)) → x ≡ ack k m
      → (w : record_of.Ack (List ℕ) List) × (v ≡ ack k w) × OnBoth (PropsItems s ack_row) m.props w.props
  of_ack_lem (of_ack {k = k'} {m = m'} {w = w} b) k m e =
      let i : m' ≡ m = cc in
      let j : k' ≡ k = cc in (
        w,
        ap (λ (n : ℕ). ack n w) j,
        subst (λ (n : record_of.Ack place.Span (λ A. place.Span)). OnBoth (PropsItems s ack_row) n.props w.props) i b,
      )
  of_ack_lem (of_publish b) k m e = never (cc)
  of_ack_lem (of_subscribe b l) k m e = never (cc)
  of_ack_lem (of_reply b l) k m e = never (cc)
  of_ack_lem (of_unsubscribe b l) k m e = never (cc)
  of_ack_lem of_ping k m e = never (cc)

  of_subscribe_lem : {x : Placed} {v : Packet} → Items s x v → (m : record_of.Subscribe place.Span (λ A. place.Span)) → x ≡ subscribe m
      → (w : record_of.Subscribe (List ℕ) List) × (v ≡ subscribe w) × OnBoth (PropsItems s subscribe_row) m.props w.props × Lists (filter_at as_places s m.filters) (say_filter s) w.filters
  of_subscribe_lem (of_subscribe {m = m'} {w = w} b l) m e =
      let i : m' ≡ m = cc in (
        w,
        refl,
        subst (λ (n : record_of.Subscribe place.Span (λ A. place.Span)). OnBoth (PropsItems s subscribe_row) n.props w.props) i b,
        subst (λ (n : record_of.Subscribe place.Span (λ A. place.Span)). Lists (filter_at as_places s n.filters) (say_filter s) w.filters) i l,
      )
  of_subscribe_lem (of_publish b) m e = never (cc)
  of_subscribe_lem (of_ack b) m e = never (cc)
  of_subscribe_lem (of_reply b l) m e = never (cc)
  of_subscribe_lem (of_unsubscribe b l) m e = never (cc)
  of_subscribe_lem of_ping m e = never (cc)

  of_reply_lem : {x : Placed} {v : Packet} → Items s x v → (k : ℕ) (m : record_of.Reply place.Span (λ A. place.Span)) → x ≡ reply k m
      → (w : record_of.Reply (List ℕ) List) × (v ≡ reply k w) × OnBoth (PropsItems s ack_row) m.props w.props × Lists (reason_at s m.reasons (reasons_of k)) (λ c. c) w.reasons
  of_reply_lem (of_reply {k = k'} {m = m'} {w = w} b l) k m e =
      let i : m' ≡ m = cc in
      let j : k' ≡ k = cc in (
        w,
        ap (λ (n : ℕ). reply n w) j,
        subst (λ (n : record_of.Reply place.Span (λ A. place.Span)). OnBoth (PropsItems s ack_row) n.props w.props) i b,
        subst (λ (n : ℕ). Lists (reason_at s m.reasons (reasons_of n)) (λ c. c) w.reasons) j (subst (λ (n : record_of.Reply place.Span (λ A. place.Span)). Lists (reason_at s n.reasons (reasons_of k')) (λ c. c) w.reasons) i l),
      )
  of_reply_lem (of_publish b) k m e = never (cc)
  of_reply_lem (of_ack b) k m e = never (cc)
  of_reply_lem (of_subscribe b l) k m e = never (cc)
  of_reply_lem (of_unsubscribe b l) k m e = never (cc)
  of_reply_lem of_ping k m e = never (cc)

  of_unsubscribe_lem : {x : Placed} {v : Packet} → Items s x v → (m : record_of.Unsubscribe place.Span (λ A. place.Span)) → x ≡ unsubscribe m
      → (w : record_of.Unsubscribe (List ℕ) List) × (v ≡ unsubscribe w) × OnBoth (PropsItems s unsubscribe_row) m.props w.props × Lists (topic_at as_places s m.topics) (held_of s) w.topics
  of_unsubscribe_lem (of_unsubscribe {m = m'} {w = w} b l) m e =
      let i : m' ≡ m = cc in (
        w,
        refl,
        subst (λ (n : record_of.Unsubscribe place.Span (λ A. place.Span)). OnBoth (PropsItems s unsubscribe_row) n.props w.props) i b,
        subst (λ (n : record_of.Unsubscribe place.Span (λ A. place.Span)). Lists (topic_at as_places s n.topics) (held_of s) w.topics) i l,
      )
  of_unsubscribe_lem (of_publish b) m e = never (cc)
  of_unsubscribe_lem (of_ack b) m e = never (cc)
  of_unsubscribe_lem (of_subscribe b l) m e = never (cc)
  of_unsubscribe_lem (of_reply b l) m e = never (cc)
  of_unsubscribe_lem of_ping m e = never (cc)

  -- user properties of a block in a row
  block_items : (row : Row) {w : Option (Props (List ℕ) List)} (b : std.Option Properties) (p : Properties) → OnBoth (PropsItems s row) (told_block b) w → b ≡ Some p
      → (qs : Props (List ℕ) List) × (w ≡ some qs) × UserItems s row p.block qs.user
  block_items row b p o f =
      let (qs, j, l) = present o (told_properties p) (ap told_block f) in
      (qs, j, λ k u c. ap (on_got (say_val s)) c ∙ l k)

-- what is handed back as it is
itself : {A : Type 0} (m : Fit A) → m ≡ on_got (λ x. x) m
itself (got a) = refl
itself (bad k) = refl

-- ---- of an answer that meets the contract of `packet::read`

module _ (limit : std.Option ℕ) (s : List ℕ) (r : ReadResult) (h : Meets limit s r) (o : Bounds) (n : ℕ) where
  -- user properties and subscription identifiers of a Publish that has a block
  pub publish_items : (m : Publish) (p : PublishProperties) → r ≡ Ok (code.Packet.Publish m, o, n) → m.properties ≡ Some p
      → (w : record_of.Publish (List ℕ) List) × (qs : PublishProps (List ℕ) List)
      × Says s r (accepted (publish w) n) × (w.props ≡ some qs) × UserItems s publish_row p.block qs.user × IdentifierItems s p.block qs.subscriptions
  publish_items m p e f =
      let (v, a, t) = items limit s r h (code.Packet.Publish m) o n e in
      let (w, i, b) = of_publish_lem s t (told_publish m) refl in
      let (qs, j, l) = present b (told_publish_properties p) (ap told_publish_block f) in
      (w, qs, subst (λ (x : Packet). Says s r (accepted x n)) i a, j, λ k u c. ap (on_got (say_val s)) c ∙ l.0 k, λ k u c. ap (on_got (say_val s)) c ∙ l.1 k)

  -- user properties of a publish acknowledgement that has a block
  pub ack_items : (k : AckKind) (m : Ack) (p : Properties) → r ≡ Ok (code.Packet.Ack k m, o, n) → m.properties ≡ Some p
      → (w : record_of.Ack (List ℕ) List) × (qs : Props (List ℕ) List) × Says s r (accepted (ack (told_ack_kind k) w) n) × (w.props ≡ some qs) × UserItems s ack_row p.block qs.user
  ack_items k m p e f =
      let (v, a, t) = items limit s r h (code.Packet.Ack k m) o n e in
      let (w, i, b) = of_ack_lem s t (told_ack_kind k) (told_ack m) refl in
      let (qs, j, l) = block_items s ack_row m.properties p b f in
      (w, qs, subst (λ (x : Packet). Says s r (accepted x n)) i a, j, l)

  -- user properties of a Subscribe that has a block
  pub subscribe_items : (m : Subscribe) (p : Properties) → r ≡ Ok (code.Packet.Subscribe m, o, n) → m.properties ≡ Some p
      → (w : record_of.Subscribe (List ℕ) List) × (qs : Props (List ℕ) List) × Says s r (accepted (subscribe w) n) × (w.props ≡ some qs) × UserItems s subscribe_row p.block qs.user
  subscribe_items m p e f =
      let (v, a, t) = items limit s r h (code.Packet.Subscribe m) o n e in
      let (w, i, b, g) = of_subscribe_lem s t (told_subscribe m) refl in
      let (qs, j, l) = block_items s subscribe_row m.properties p b f in
      (w, qs, subst (λ (x : Packet). Says s r (accepted x n)) i a, j, l)

  -- user properties of a SubAck or UnsubAck that has a block
  pub reply_items : (k : ReplyKind) (m : Reply) (p : Properties) → r ≡ Ok (code.Packet.Reply k m, o, n) → m.properties ≡ Some p
      → (w : record_of.Reply (List ℕ) List) × (qs : Props (List ℕ) List) × Says s r (accepted (reply (told_reply_kind k) w) n) × (w.props ≡ some qs) × UserItems s ack_row p.block qs.user
  reply_items k m p e f =
      let (v, a, t) = items limit s r h (code.Packet.Reply k m) o n e in
      let (w, i, b, g) = of_reply_lem s t (told_reply_kind k) (told_reply m) refl in
      let (qs, j, l) = block_items s ack_row m.properties p b f in
      (w, qs, subst (λ (x : Packet). Says s r (accepted x n)) i a, j, l)

  -- user properties of an Unsubscribe that has a block
  pub unsubscribe_items : (m : Unsubscribe) (p : Properties) → r ≡ Ok (code.Packet.Unsubscribe m, o, n) → m.properties ≡ Some p
      → (w : record_of.Unsubscribe (List ℕ) List) × (qs : Props (List ℕ) List) × Says s r (accepted (unsubscribe w) n) × (w.props ≡ some qs) × UserItems s unsubscribe_row p.block qs.user
  unsubscribe_items m p e f =
      let (v, a, t) = items limit s r h (code.Packet.Unsubscribe m) o n e in
      let (w, i, b, g) = of_unsubscribe_lem s t (told_unsubscribe m) refl in
      let (qs, j, l) = block_items s unsubscribe_row m.properties p b f in
      (w, qs, subst (λ (x : Packet). Says s r (accepted x n)) i a, j, l)

  -- filters of a Subscribe
  pub filter_items : (m : Subscribe) → r ≡ Ok (code.Packet.Subscribe m, o, n) → (w : record_of.Subscribe (List ℕ) List) × Says s r (accepted (subscribe w) n) × FilterItems s m.filters w.filters
  filter_items m e =
      let (v, a, t) = items limit s r h (code.Packet.Subscribe m) o n e in
      let (w, i, b, g) = of_subscribe_lem s t (told_subscribe m) refl in
      (w, subst (λ (x : Packet). Says s r (accepted x n)) i a, λ k u c. ap (on_got (say_filter s)) c ∙ g k)

  -- reasons of a SubAck or UnsubAck
  pub reason_items : (k : ReplyKind) (m : Reply) → r ≡ Ok (code.Packet.Reply k m, o, n) → (w : record_of.Reply (List ℕ) List) × Says s r (accepted (reply (told_reply_kind k) w) n) × ReasonItems s k m.reasons w.reasons
  reason_items k m e =
      let (v, a, t) = items limit s r h (code.Packet.Reply k m) o n e in
      let (w, i, b, g) = of_reply_lem s t (told_reply_kind k) (told_reply m) refl in
      (w, subst (λ (x : Packet). Says s r (accepted x n)) i a, λ j u c. c ∙ itself (reason_at s (told_span m.reasons) (reasons_of (told_reply_kind k)) j) ∙ g j)

  -- topics of an Unsubscribe
  pub topic_items : (m : Unsubscribe) → r ≡ Ok (code.Packet.Unsubscribe m, o, n) → (w : record_of.Unsubscribe (List ℕ) List) × Says s r (accepted (unsubscribe w) n) × TopicItems s m.topics w.topics
  topic_items m e =
      let (v, a, t) = items limit s r h (code.Packet.Unsubscribe m) o n e in
      let (w, i, b, g) = of_unsubscribe_lem s t (told_unsubscribe m) refl in
      (w, subst (λ (x : Packet). Says s r (accepted x n)) i a, λ k u c. ap (on_got (held_of s)) c ∙ g k)
