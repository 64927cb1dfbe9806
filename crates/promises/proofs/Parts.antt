-- What the places of a record hold is its value: the parts that `publish_parts` and `ack` give are the strings of the sentence. Assumes nothing.
use mathlib.Core.Path.{◌≡◌, refl, sym, ap, ◌∙◌}
use mathlib.Core.Option.{Option, none, some}
use mathlib.Core.List.{List}
use Prim.Native.Nat.{ℕ}
use Rattle.grammar.specs.Tables.{publish_row, ack_row, reasons_of}
use Rattle.grammar.specs.Record.{Val, num, str, duo, PublishProps, Props, publish, ack, reply}
use Rattle.grammar.specs.Record as record_of
use Rattle.grammar.specs.Sentence.{Value, Packet}
use Rattle.reading.specs.Reader.{Fit, got, bad}
use Rattle.reading.specs.Read.{as_bytes, reasons_fit}
use Rattle.reading.specs.Place.{Span, held_of, again, values_at, on_got, on_some, if_some, say_val, say_publish_props, say_props, say}
use Rattle.reading.proofs.Reading.{bad_got, from_got, from_bind}
use Rattle.records.specs.AsNumbers.{told_ack_kind, told_reply_kind, told_span}
use Rattle.records.specs.Said.{told_publish_block, told_block, told_packet}
use Rattle.records.specs.declared.packet_record.Packet as code
use Rattle.records.specs.declared.ack_record.Ack.{Ack}
use Rattle.records.specs.declared.ack_record.AckKind.{AckKind}
use Rattle.records.specs.declared.publish_record.Publish.{Publish}
use Rattle.records.specs.declared.reply_record.Reply.{Reply}
use Rattle.records.specs.declared.reply_record.ReplyKind.{ReplyKind}
use Rattle.wire.specs.Part.{place_if}
use Rattle.wire.specs.StringRead.{string_if, in_block}
use Rattle.wire.proofs.Laws.{place_held}
use Rattle.publish_parts.specs.Parts.{topic_in, payload_in, response, correlation, content}
use Rattle.ack.specs.AckRead.{reason}
use Rattle.promises.specs.Reading.{itself, PartSays, PublishParts, ReasonPart}

module _ (s : List ℕ) where
  -- ---- a string of a block

  -- v says w
  abbrev Said : Option (Val Span) → Option Value → Type 0
  Said v w = on_some (say_val s) v ≡ w

  held : (v : Option (Val Span)) → string_if (held_of s) v ≡ string_if itself (on_some (say_val s) v)
  unfolding string_if
  held none = refl
  held (some (num n)) = refl
  held (some (str p)) = refl
  held (some (duo p q)) = refl

  -- where a block says another, and with it its string f the other's g, the part at f is the string g
  part_said : {P Q : Type 0} (f : P → Option (Val Span)) (g : Q → Option Value) (h : P → Fit Q) → ((p : P) (q : Q) → h p ≡ got q → Said (f p) (g q))
      → (o : Option P) (w : Option Q) → if_some h o ≡ got w → string_if (held_of s) (in_block f o) ≡ string_if itself (in_block g w)
  unfolding string_if
  part_said f g h t none w = from_got (λ w. string_if (held_of s) (in_block f none) ≡ string_if itself (in_block g w)) none refl w
  part_said {Q = Q} f g h t (some p) w = go (h p) refl
    where
      go : (m : Fit Q) → h p ≡ m → on_got some m ≡ got w → string_if (held_of s) (f p) ≡ string_if itself (in_block g w)
      go (got q) e = from_got (λ w. string_if (held_of s) (f p) ≡ string_if itself (in_block g w)) (some q) (held (f p) ∙ ap (string_if itself) (t p q e)) w
      go (bad k) e = λ i. absurd (bad_got i)

  -- what is held at a place is what every part there says
  part_says : (p : Span) (b : List ℕ) → held_of s p ≡ b → PartSays s p b
  part_says p b h q r e a = a.bytes ∙ ap (λ (l : List ℕ). held_of l p) e ∙ h

  -- the same of a string that may be absent
  string_says : (v : Option (Val Span)) (b : List ℕ) → string_if (held_of s) v ≡ b → PartSays s (place_if v) b
  string_says v b h = part_says (place_if v) b (sym (place_held s v) ∙ h)

  -- ---- Publish

  -- the strings of a block
  record PublishSaid (p : PublishProps Span (λ A. Span)) (q : PublishProps (List ℕ) List) : Type 0 where
    response : Said p.response q.response
    correlation : Said p.correlation q.correlation
    content : Said p.content q.content

  publish_said_lem : (p : PublishProps Span (λ A. Span)) (q : PublishProps (List ℕ) List) → say_publish_props s p ≡ got q → PublishSaid p q
  publish_said_lem p = from_bind (values_at as_bytes s p.user publish_row 38) _ λ us e. from_bind (values_at as_bytes s p.subscriptions publish_row 11) _ λ ts i.
      from_got (PublishSaid p) _ (record { response = refl; correlation = refl; content = refl })

  pub publish_parts_lem : (m : Publish) (v : Packet) → say s (told_packet (code.Packet.Publish m)) ≡ got v → (w : record_of.Publish (List ℕ) List) × (v ≡ publish w) × PublishParts s m w
  publish_parts_lem m = from_bind (if_some (say_publish_props s) (told_publish_block m.properties)) _ λ ps e.
      let b = told_publish_block m.properties in
      from_got (λ (v : Packet). (w : record_of.Publish (List ℕ) List) × (v ≡ publish w) × PublishParts s m w) _ (
        _,
        refl,
        record {
          topic = part_says (told_span m.topic) (topic_in s m) refl;
          payload = part_says (told_span m.payload) (payload_in s m) refl;
          response_part = string_says (response m) _ (part_said (λ p. p.response) (λ q. q.response) (say_publish_props s) (λ p q i. (publish_said_lem p q i).response) b ps e);
          correlation_part = string_says (correlation m) _ (part_said (λ p. p.correlation) (λ q. q.correlation) (say_publish_props s) (λ p q i. (publish_said_lem p q i).correlation) b ps e);
          content_part = string_says (content m) _ (part_said (λ p. p.content) (λ q. q.content) (say_publish_props s) (λ p q i. (publish_said_lem p q i).content) b ps e);
        },
      )

  -- ---- the acknowledgements and replies

  reason_said : (p : Props Span (λ A. Span)) (q : Props (List ℕ) List) → say_props s ack_row p ≡ got q → Said p.reason q.reason
  reason_said p = from_bind (values_at as_bytes s p.user ack_row 38) _ λ us e. from_got (λ q. Said p.reason q.reason) _ refl

  pub ack_parts : (k : AckKind) (m : Ack) (v : Packet) → say s (told_packet (code.Packet.Ack k m)) ≡ got v → (w : record_of.Ack (List ℕ) List) × (v ≡ ack (told_ack_kind k) w) × ReasonPart s m.properties w.props
  ack_parts k m = from_bind (if_some (say_props s ack_row) (told_block m.properties)) _ λ ps e.
      from_got (λ (v : Packet). (w : record_of.Ack (List ℕ) List) × (v ≡ ack (told_ack_kind k) w) × ReasonPart s m.properties w.props) _
      (_, refl, record { reason_part = string_says (reason m.properties) _ (part_said (λ p. p.reason) (λ q. q.reason) (say_props s ack_row) reason_said (told_block m.properties) ps e) })

  pub reply_parts : (k : ReplyKind) (m : Reply) (v : Packet) → say s (told_packet (code.Packet.Reply k m)) ≡ got v → (w : record_of.Reply (List ℕ) List) × (v ≡ reply (told_reply_kind k) w) × ReasonPart s m.properties w.props
  reply_parts k m = from_bind (if_some (say_props s ack_row) (told_block m.properties)) _ λ ps e. from_bind (again (reasons_fit (reasons_of (told_reply_kind k))) s (told_span m.reasons)) _ λ cs i.
      from_got (λ (v : Packet). (w : record_of.Reply (List ℕ) List) × (v ≡ reply (told_reply_kind k) w) × ReasonPart s m.properties w.props) _
      (_, refl, record { reason_part = string_says (reason m.properties) _ (part_said (λ p. p.reason) (λ q. q.reason) (say_props s ack_row) reason_said (told_block m.properties) ps e) })
