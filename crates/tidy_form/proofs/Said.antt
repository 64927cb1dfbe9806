-- What holds of every packet that a sentence says. Assumes nothing.
use mathlib.Core.Path.{◌≡◌, refl, sym, ap, ◌∙◌}
use mathlib.Core.Bool.{Bool, true, false, not, ◌||◌, cond, false≢true}
use mathlib.Core.Option.{Option, none, some}
use mathlib.Core.List.{List, [], ◌++◌}
use Prim.Native.Nat.{ℕ, zero, suc, ◌+◌, ◌≤◌, ◌<◌}
use native.Mathlib.Omega.{arith}
use lib.Dec.{eqb}
use lib.ListN.{length, length-append}
use Rattle.grammar.specs.Choice.{is_in, lookup}
use Rattle.grammar.specs.Gram.{nothing, mapped, only, both, sized, is}
use Rattle.grammar.specs.Number.{byte}
use Rattle.grammar.specs.Text.{Utf8}
use Rattle.grammar.specs.Tables.{publish_row, subscribe_row, ack_row, unsubscribe_row, reasons, release_reasons, Layout, a_publish, an_ack, a_subscribe, a_reply, an_unsubscribe, a_ping, kinds, listed, reasons_of}
use Rattle.grammar.specs.Record.{Props, Publish, Filter, Subscribe, Ack, Reply, Unsubscribe, kind_of, flag_qos, mk_filter}
use Rattle.grammar.specs.Sentence.{Any, publish_of, props_if, not_three, not_zero, Ident, qos_fine, rule_fine, FilterOf, some_of, AckRest, plain, coded, full, ReasonOf, Text, Packet, Fields, body, framed, Sentence}
use Rattle.grammar.specs.Record as g
use Rattle.grammar.specs.Octets.{Each, nil, Octet, Octets}
use Rattle.reading.proofs.Lists.{lookup_each}
use Rattle.writing.specs.Lists.{total}
use Rattle.writing.specs.Size.{most, ident_size}
use Rattle.writing.specs.Refuse.{Short}
use Rattle.writing.proofs.Each.{each_head, each_tail, each_left, each_right}
use Rattle.writing.proofs.Tests.{eq_not, all_when}
use Rattle.tidy_form.proofs.Has.{has_many, has_byte, has_big, has_number, has_string, FromList, has_block}

-- ---- each kind; `size` is what the block may take

-- a Publish
pub record PublishSaid (p : Publish (List ℕ) List) : Type 0 where
  pub dup : p.dup < 2
  pub qos : p.qos < 3
  pub retain : p.retain < 2
  pub topic : Short p.topic
  pub octets : Octets p.topic
  pub ident : p.ident < 65536
  pub unnamed : p.qos ≡ 0 → p.ident ≡ 0
  pub has_ident : (p.qos ≡ 0 → ⊥) → p.ident ≡ 0 → ⊥
  pub size : ℕ
  pub props : FromList publish_row publish_of p.props size
  pub payload : Octets p.payload
  pub light : 2 + length p.topic + (ident_size p.qos p.ident + (size + length p.payload)) ≤ most

-- an acknowledgement of the kind k
pub record AckSaid (k : ℕ) (p : Ack (List ℕ) List) : Type 0 where
  pub kind : lookup kinds k ≡ some (an_ack (reasons_of k))
  pub reason : is_in p.reason (reasons_of k) ≡ true
  pub octet : p.reason < 256
  pub ident : p.ident < 65536
  pub size : ℕ
  pub props : FromList ack_row props_if p.props size
  pub light : 3 + size ≤ most

-- a filter; `options` is the byte that was read
pub record FilterSaid (f : Filter (List ℕ)) : Type 0 where
  pub path : Short f.path
  pub text : Utf8 f.path
  pub octets : Octets f.path
  pub options : ℕ
  pub filter : f ≡ mk_filter (f.path, options)
  pub rule : rule_fine options ≡ true
  pub qos : qos_fine options ≡ true

-- two bytes of length, the text, and the options byte
abbrev pub filter_size : Filter (List ℕ) → ℕ
filter_size f = 3 + length f.path

-- a Subscribe
pub record SubscribeSaid (p : Subscribe (List ℕ) List) : Type 0 where
  pub ident : p.ident < 65536
  pub size : ℕ
  pub props : FromList subscribe_row props_if p.props size
  pub filters : Each FilterSaid p.filters
  pub has_entries : some_of p.filters ≡ true
  pub light : 2 + (size + total filter_size p.filters) ≤ most

-- a reason of the list
abbrev pub ReasonSaid : List ℕ → ℕ → Type 0
ReasonSaid rs c = (is_in c rs ≡ true) × Octet c

-- a SubAck or UnsubAck of the kind k
pub record ReplySaid (k : ℕ) (p : Reply (List ℕ) List) : Type 0 where
  pub kind : lookup kinds k ≡ some (a_reply (reasons_of k))
  pub ident : p.ident < 65536
  pub size : ℕ
  pub props : FromList ack_row props_if p.props size
  pub reasons : Each (ReasonSaid (reasons_of k)) p.reasons
  pub has_entries : some_of p.reasons ≡ true
  pub light : 2 + (size + total (λ c. 1) p.reasons) ≤ most

-- a topic
abbrev pub TopicSaid : List ℕ → Type 0
TopicSaid s = Short s × Utf8 s × Octets s

-- an Unsubscribe
pub record UnsubscribeSaid (p : Unsubscribe (List ℕ) List) : Type 0 where
  pub ident : p.ident < 65536
  pub size : ℕ
  pub props : FromList unsubscribe_row props_if p.props size
  pub topics : Each TopicSaid p.topics
  pub has_entries : some_of p.topics ≡ true
  pub light : 2 + (size + total (λ s. 2 + length s) p.topics) ≤ most

-- each kind
abbrev pub Said : Packet → Type 0
Said (g.publish p) = PublishSaid p
Said (g.ack k p) = AckSaid k p
Said (g.subscribe p) = SubscribeSaid p
Said (g.reply k p) = ReplySaid k p
Said (g.unsubscribe p) = UnsubscribeSaid p
Said (g.ping k) = lookup kinds k ≡ some a_ping

-- ---- Publish

-- an identifier i at QoS q, in n bytes
record Named (q i n : ℕ) : Type 0 where
  small : i < 65536
  unnamed : q ≡ 0 → i ≡ 0
  has_ident : (q ≡ 0 → ⊥) → i ≡ 0 → ⊥
  light : ident_size q i ≤ n

has_ident_lem : (q i : ℕ) (b : List ℕ) → Ident q i b → Octets b → Named q i (length b)
has_ident_lem zero _ _ nothing o = record { small = omega arith; unnamed = λ _. refl; has_ident = λ n _. n refl; light = omega arith }
has_ident_lem (suc q) i b (only t g) o =
    let (h, e) = has_big 2 i b g o in
    record { small = omega arith; unnamed = λ z. absurd (omega arith); has_ident = λ _ z. false≢true (ap not_zero (sym z) ∙ t); light = omega (arith, two (eqb (suc q) 0 || eqb i 0)) }
  where
    two : (t : Bool) → cond t 0 2 ≤ 2
    two true = omega arith
    two false = omega arith

not_three_lem : (q : ℕ) → not_three q ≡ true → q < 4 → q < 3
not_three_lem q e h = go (eqb q 3) refl e
  where
    go : (t : Bool) → eqb q 3 ≡ t → not t ≡ true → q < 3
    go true c n = absurd (false≢true n)
    go false c n = let m = (eq_not q 3).0 c in omega arith

publish_said_lem : (x : ℕ) (v : Packet) (b : List ℕ) → Fields a_publish x v b → Octets b → length b ≤ most → Said v
publish_said_lem x _ _ (only t (mapped (both {a = s} {b = b₁} {d = d₁} g₁ (both {a = i} {b = b₂} {d = d₂} g₂ (both {a = a} {b = b₃} {d = d₃} g₃ (is _)))))) o l =
    let q₁ = each_right b₁ d₁ o in
    let q₂ = each_right b₂ d₂ q₁ in
    let (h, _, w, e) = has_string Any s b₁ g₁ (each_left b₁ d₁ o) in
    let n = has_ident_lem (flag_qos x) i b₂ g₂ (each_left b₂ d₂ q₁) in
    let ps = has_block publish_row publish_of a b₃ g₃ (each_left b₃ d₃ q₂) in
    record {
      dup = omega arith;
      qos = not_three_lem (flag_qos x) t (omega arith);
      retain = omega arith;
      topic = h;
      octets = w;
      ident = n.small;
      unnamed = n.unnamed;
      has_ident = n.has_ident;
      size = length b₃;
      props = ps;
      payload = each_right b₃ d₃ q₂;
      light = omega (arith, n.light, length-append b₁ d₁, length-append b₂ d₂, length-append b₃ d₃);
    }

-- ---- acknowledgements

-- a kind's reasons are those of its layout
kind_lists : (k : ℕ) (f : Layout) → lookup kinds k ≡ some f → reasons_of k ≡ listed (some f)
unfolding reasons_of
kind_lists k f e = ap listed e

-- every kind of acknowledgement can give success
abbrev has_zero : Layout → Bool
has_zero a_publish = true
has_zero (an_ack rs) = is_in 0 rs
has_zero a_subscribe = true
has_zero (a_reply rs) = true
has_zero an_unsubscribe = true
has_zero a_ping = true

-- by computation over the table
kinds_zero : (k : ℕ) (l : Layout) → lookup kinds k ≡ some l → has_zero l ≡ true
unfolding kinds reasons release_reasons
kinds_zero = lookup_each (λ r. has_zero r.1 ≡ true) ((all_when (λ r. has_zero r.1) (λ r. (λ e. e, λ e. e)) kinds).0 refl)

-- reason and block of an acknowledgement, in n bytes
record RestSaid (rs : List ℕ) (v : ℕ × Option (Props (List ℕ) List)) (n : ℕ) : Type 0 where
  reason : is_in v.0 rs ≡ true
  octet : v.0 < 256
  size : ℕ
  props : FromList ack_row props_if v.1 size
  light : 2 + n ≤ most → 3 + size ≤ most

no_props_lem : (n : ℕ) → 1 ≤ n → FromList ack_row props_if none n
no_props_lem n h = record { list = []; is = refl; suits = nil; light = omega arith }

rest_said : (rs : List ℕ) → is_in 0 rs ≡ true → (v : ℕ × Option (Props (List ℕ) List)) (b : List ℕ) → AckRest ack_row rs v b → Octets b → RestSaid rs v (length b)
rest_said rs z _ _ plain o = record { reason = z; octet = omega arith; size = 1; props = no_props_lem 1 (omega arith); light = λ _. omega arith }
rest_said rs z _ _ (coded t) o = record { reason = t; octet = each_head o; size = 1; props = no_props_lem 1 (omega arith); light = λ _. omega arith }
rest_said rs z _ _ (full {ps = ps} {b = b} t g) o = record { reason = t; octet = each_head o; size = length b; props = has_block ack_row props_if ps b g (each_tail o); light = λ l. omega arith }

ack_said : (rs : List ℕ) (x : ℕ) → lookup kinds (kind_of x) ≡ some (an_ack rs) → (v : Packet) (b : List ℕ) → Fields (an_ack rs) x v b → Octets b → length b ≤ most → Said v
ack_said rs x e _ _ (mapped (both {a = i} {c = v} {b = c} {d = d} g w)) o l =
    let (h, n) = has_big 2 i c g (each_left c d o) in
    let r = rest_said rs (kinds_zero (kind_of x) (an_ack rs) e) v d w (each_right c d o) in
    let q = kind_lists (kind_of x) (an_ack rs) e in
    record { kind = rw q e; reason = rw q r.reason; octet = r.octet; ident = omega arith; size = r.size; props = r.props; light = r.light (omega (arith, length-append c d)) }

-- ---- Subscribe

has_filter : (f : Filter (List ℕ)) (b : List ℕ) → FilterOf f b → Octets b → FilterSaid f × (filter_size f ≤ length b)
has_filter _ _ (mapped (both {a = s} {c = p} {b = b} {d = d} g (only q (only r byte)))) o =
    let (h, u, w, e) = has_string Utf8 s b g (each_left b d o) in
    (record { path = h; text = u; octets = w; options = p; filter = refl; rule = r; qos = q }, omega (arith, length-append b d))

subscribe_said : (x : ℕ) (v : Packet) (b : List ℕ) → Fields a_subscribe x v b → Octets b → length b ≤ most → Said v
subscribe_said x _ _ (mapped (both {a = i} {b = b₁} {d = d₁} g₁ (both {a = a} {c = fs} {b = b₂} {d = d₂} g₂ (only t m)))) o l =
    let q₁ = each_right b₁ d₁ o in
    let (h, e) = has_big 2 i b₁ g₁ (each_left b₁ d₁ o) in
    let (ws, k) = has_many FilterSaid filter_size has_filter fs d₂ m (each_right b₂ d₂ q₁) in
    record {
      ident = omega arith;
      size = length b₂;
      props = has_block subscribe_row props_if a b₂ g₂ (each_left b₂ d₂ q₁);
      filters = ws;
      has_entries = t;
      light = omega (arith, length-append b₁ d₁, length-append b₂ d₂);
    }

-- ---- replies and Unsubscribe

has_reason : (rs : List ℕ) (c : ℕ) (b : List ℕ) → ReasonOf rs c b → Octets b → ReasonSaid rs c × (1 ≤ length b)
has_reason rs c b (only t g) o = let (h, e) = has_byte c b g o in ((t, h), omega arith)

reply_said : (rs : List ℕ) (x : ℕ) → lookup kinds (kind_of x) ≡ some (a_reply rs) → (v : Packet) (b : List ℕ) → Fields (a_reply rs) x v b → Octets b → length b ≤ most → Said v
reply_said rs x e _ _ (mapped (both {a = i} {b = b₁} {d = d₁} g₁ (both {a = a} {c = cs} {b = b₂} {d = d₂} g₂ (only t m)))) o l =
    let q₁ = each_right b₁ d₁ o in
    let q = kind_lists (kind_of x) (a_reply rs) e in
    let (h, n) = has_big 2 i b₁ g₁ (each_left b₁ d₁ o) in
    let (ws, k) = has_many (ReasonSaid rs) (λ c. 1) (has_reason rs) cs d₂ m (each_right b₂ d₂ q₁) in
    record {
      kind = rw q e;
      ident = omega arith;
      size = length b₂;
      props = has_block ack_row props_if a b₂ g₂ (each_left b₂ d₂ q₁);
      reasons = rw q ws;
      has_entries = t;
      light = omega (arith, length-append b₁ d₁, length-append b₂ d₂);
    }

has_topic : (s b : List ℕ) → Text s b → Octets b → TopicSaid s × (2 + length s ≤ length b)
has_topic s b g o = let (h, u, w, e) = has_string Utf8 s b g o in ((h, u, w), omega arith)

unsubscribe_said : (x : ℕ) (v : Packet) (b : List ℕ) → Fields an_unsubscribe x v b → Octets b → length b ≤ most → Said v
unsubscribe_said x _ _ (mapped (both {a = i} {b = b₁} {d = d₁} g₁ (both {a = a} {c = ts} {b = b₂} {d = d₂} g₂ (only t m)))) o l =
    let q₁ = each_right b₁ d₁ o in
    let (h, n) = has_big 2 i b₁ g₁ (each_left b₁ d₁ o) in
    let (ws, k) = has_many TopicSaid (λ s. 2 + length s) has_topic ts d₂ m (each_right b₂ d₂ q₁) in
    record {
      ident = omega arith;
      size = length b₂;
      props = has_block unsubscribe_row props_if a b₂ g₂ (each_left b₂ d₂ q₁);
      topics = ws;
      has_entries = t;
      light = omega (arith, length-append b₁ d₁, length-append b₂ d₂);
    }

-- ---- all

fields_said : (l : Layout) (x : ℕ) → lookup kinds (kind_of x) ≡ some l → (v : Packet) (b : List ℕ) → Fields l x v b → Octets b → length b ≤ most → Said v
fields_said a_publish x e v b w = publish_said_lem x v b w
fields_said (an_ack rs) x e v b w = ack_said rs x e v b w
fields_said a_subscribe x e v b w = subscribe_said x v b w
fields_said (a_reply rs) x e v b w = reply_said rs x e v b w
fields_said an_unsubscribe x e v b w = unsubscribe_said x v b w
fields_said a_ping x e _ b (mapped w) = λ o l. e

pub sentence_said : (v : Packet) (b : List ℕ) → Sentence v b → Octets b → Said v
sentence_said v _ (framed {x = x} (both {b = c} byte (sized {b = b} {c = n} k (is _))) (body {l = l} e w)) o =
    let q = each_right c (n ++ b) o in
    fields_said l x e v b w (each_right n b q) (has_number (length b) n k (each_left n b q)).0
