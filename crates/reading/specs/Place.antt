-- The reader whose answer holds places, where strings and lists stand in the stream; items read at a place; and what a placed answer
-- says once its places are looked up. A place in the stream is a `Span`; a place of the table of properties, whose row says what may
-- stand in a block, is a `Row` (grammar). Assumes nothing.
use Rattle.std.specs.Prelude.{◌≡◌, Bool, cond, List, [], ◌∷◌, ℕ, zero, suc, ◌+◌, ◌-◌, leb, length, take, drop}
use Rattle.std.proofs.Math.Option.{Option, none, some}
use Rattle.grammar.specs.Tables.{Row, publish_row, subscribe_row, ack_row, unsubscribe_row, reasons_of}
use Rattle.grammar.specs.Record.{Val, num, str, duo, PropOf, all_of, PublishProps, Props, Publish, Filter, Subscribe, Ack, Reply, Unsubscribe, PacketOf, publish, ack, subscribe, reply, unsubscribe, ping}
use Rattle.grammar.specs.Sentence.{Value, Prop, Packet}
use Rattle.reading.specs.Refusal.{Refusal, nr, Answer, accepted, refused}
use Rattle.reading.specs.Reader.{Fit, got, bad, Filler, ◌>>=◌, ◌>>◌, guard}
use Rattle.reading.specs.Read.{Shape, as_bytes, reasons_fit, properties_fit, filters_fit, topics_fit, read_as}

-- 01, "What must change shape": "handed back as parts of the caller's stream"; "the place of the block or filters"
pub record Span : Type 0 where
  pub start : ℕ
  pub len : ℕ

-- the span of the bytes b that end at index `end`
abbrev pub span_of : List ℕ → ℕ → Span
span_of b end = record { start = end - length b; len = length b }

-- 01: "parts of the caller's stream"
abbrev pub part_of : List ℕ → Span → List ℕ
part_of s p = take p.len (drop p.start s)

-- 01, row 21: "the place .. of the lent bytes": where it ends, they have not ended before
abbrev pub lies_in : List ℕ → Span → Bool
lies_in s p = leb (p.start + p.len) (length s)

-- demand 1, of any record: the part if it lies within the stream, else the empty part
unfoldable pub held_of : List ℕ → Span → List ℕ
held_of s p = cond (lies_in s p) (part_of s p) []

-- 01, "What must change shape": a string is handed back as its span, a list as the span that its items fill
abbrev pub as_places : Shape
as_places = record { Str = Span; Run = λ A. Span; string = span_of; run = λ A vs b end. span_of b end }

-- a packet with spans for strings and lists
abbrev pub Placed : Type 0
Placed = PacketOf Span (λ A. Span)

-- 01, "What must change shape": the answer, with every number and place in it
abbrev pub read_placed_of : Option ℕ → List ℕ → Answer Placed
read_placed_of = read_as as_places

-- ---- items at a place; 01, row 21: "the place is not a well-formed block of the kind asked, or filter run, of the lent bytes, or n is past its last item"

-- 01, row 21
abbrev pub no_item : Refusal
no_item = nr 21 []

-- 01, row 21: whatever breaks there
abbrev pub or_no_item : {A : Type 0} → Fit A → Fit A
or_no_item (got a) = got a
or_no_item (bad k) = bad no_item

-- 01, row 21: what fills the part of s at p
unfoldable pub again : {A : Type 0} → (ℕ → Filler A) → List ℕ → Span → Fit A
again q s p = do
  guard (lies_in s p) no_item
  or_no_item (q (p.start + p.len) (part_of s p))

-- 01, row 21: "or n is past its last item"
abbrev pub nth_of : {A : Type 0} → ℕ → List A → Fit A
nth_of n [] = bad no_item
nth_of zero (a ∷ vs) = got a
nth_of (suc n) (a ∷ vs) = nth_of n vs

-- 02, P1: the n-th reason of a SubAck or UnsubAck, of the kind whose reasons are rs
unfoldable pub reason_at : List ℕ → Span → List ℕ → ℕ → Fit ℕ
reason_at s p rs n = do
  cs ← again (reasons_fit rs) s p
  nth_of n cs

module _ (h : Shape) (s : List ℕ) (p : Span) where
  -- all values of property i in a block of the row
  unfoldable pub values_at : Row → ℕ → Fit (List (Val h.Str))
  values_at row i = do
    ps ← again (properties_fit h row) s p
    got (all_of i ps)

  -- 01: "a way to get the n-th pair, identifier or filter, n from 0, each list apart"
  unfoldable pub user_at : Row → ℕ → Fit (Val h.Str)
  user_at row n = do
    vs ← values_at row 38
    nth_of n vs

  -- 01: the n-th identifier of a Publish block
  unfoldable pub subscription_at : ℕ → Fit (Val h.Str)
  subscription_at n = do
    vs ← values_at publish_row 11
    nth_of n vs

  -- 01: the n-th filter of a run
  unfoldable pub filter_at : ℕ → Fit (Filter h.Str)
  filter_at n = do
    fs ← again (filters_fit h) s p
    nth_of n fs

  -- 02, P1: the n-th topic of an Unsubscribe
  unfoldable pub topic_at : ℕ → Fit h.Str
  topic_at n = do
    ts ← again (topics_fit h) s p
    nth_of n ts

-- ---- what a placed record says of the stream s: a string is the part at its place, a list the items that are read at its place

-- f of what was read
abbrev pub on_got : {A B : Type 0} → (A → B) → Fit A → Fit B
on_got f (got a) = got (f a)
on_got f (bad k) = bad k

-- f of what is present
abbrev pub on_some : {A B : Type 0} → (A → B) → Option A → Option B
on_some f none = none
on_some f (some a) = some (f a)

-- f of what is present, where f may refuse
abbrev pub if_some : {A B : Type 0} → (A → Fit B) → Option A → Fit (Option B)
if_some f none = got none
if_some f (some a) = on_got some (f a)

module _ (s : List ℕ) where
  -- a value
  abbrev pub say_val : Val Span → Value
  say_val (num n) = num n
  say_val (str p) = str (held_of s p)
  say_val (duo p q) = duo (held_of s p) (held_of s q)

  -- a property
  abbrev pub say_prop : PropOf Span → Prop
  say_prop p = (p.0, say_val p.1)

  -- a filter
  abbrev pub say_filter : Filter Span → Filter (List ℕ)
  say_filter f = record { path = held_of s f.path; qos = f.qos; no_local = f.no_local; preserve = f.preserve; rule = f.rule }

  -- a list that cannot be read at its place refuses
  abbrev pub say_publish_props : PublishProps Span (λ A. Span) → Fit (PublishProps (List ℕ) List)
  say_publish_props ps = do
    user ← values_at as_bytes s ps.user publish_row 38
    subscriptions ← values_at as_bytes s ps.subscriptions publish_row 11
    got (record {
      format = on_some say_val ps.format;
      expiry = on_some say_val ps.expiry;
      alias = on_some say_val ps.alias;
      response = on_some say_val ps.response;
      correlation = on_some say_val ps.correlation;
      user = user;
      subscriptions = subscriptions;
      content = on_some say_val ps.content;
    })

  -- a list that cannot be read at its place refuses
  abbrev pub say_props : Row → Props Span (λ A. Span) → Fit (Props (List ℕ) List)
  say_props row ps = do
    user ← values_at as_bytes s ps.user row 38
    got (record { reason = on_some say_val ps.reason; ident = on_some say_val ps.ident; user = user })

  -- a packet
  abbrev pub say : Placed → Fit Packet
  say (publish m) = do
    props ← if_some say_publish_props m.props
    got (publish (record {
      dup = m.dup;
      qos = m.qos;
      retain = m.retain;
      topic = held_of s m.topic;
      ident = m.ident;
      props = props;
      payload = held_of s m.payload;
    }))
  say (ack k m) = do
    props ← if_some (say_props ack_row) m.props
    got (ack k (record { ident = m.ident; reason = m.reason; props = props }))
  say (subscribe m) = do
    props ← if_some (say_props subscribe_row) m.props
    filters ← again (filters_fit as_bytes) s m.filters
    got (subscribe (record { ident = m.ident; props = props; filters = filters }))
  say (reply k m) = do
    props ← if_some (say_props ack_row) m.props
    reasons ← again (reasons_fit (reasons_of k)) s m.reasons
    got (reply k (record { ident = m.ident; props = props; reasons = reasons }))
  say (unsubscribe m) = do
    props ← if_some (say_props unsubscribe_row) m.props
    topics ← again (topics_fit as_bytes) s m.topics
    got (unsubscribe (record { ident = m.ident; props = props; topics = topics }))
  say (ping k) = got (ping k)

  -- an answer; a refusal says itself
  abbrev pub say_answer : Answer Placed → Fit (Answer Packet)
  say_answer (accepted v n) = on_got (λ w. accepted w n) (say v)
  say_answer (refused k vs n) = got (refused k vs n)

-- ---- 01, "What must change shape": "a way to get the n-th pair, identifier or filter, n from 0, each list apart"

-- the items from 0 on, their places looked up, are the list in order, and then 21
abbrev pub Lists : {A B : Type 0} → (ℕ → Fit A) → (A → B) → List B → Type 0
Lists item f vs = (n : ℕ) → on_got f (item n) ≡ nth_of n vs

-- both are absent, or R relates them
pub data OnBoth {A B : Type 0} (R : A → B → Type 0) : Option A → Option B → Type 0 where
  neither : OnBoth R none none
  each : {a : A} {b : B} → R a b → OnBoth R (some a) (some b)

module _ (s : List ℕ) where
  -- the lists of a Publish block
  abbrev pub PublishItems : PublishProps Span (λ A. Span) → PublishProps (List ℕ) List → Type 0
  PublishItems ps qs = Lists (user_at as_places s ps.user publish_row) (say_val s) qs.user × Lists (subscription_at as_places s ps.subscriptions) (say_val s) qs.subscriptions

  -- the list of a block at any other place
  abbrev pub PropsItems : Row → Props Span (λ A. Span) → Props (List ℕ) List → Type 0
  PropsItems row ps qs = Lists (user_at as_places s ps.user row) (say_val s) qs.user

  -- every list of a packet
  pub data Items : Placed → Packet → Type 0 where
    of_publish : {m : Publish Span (λ A. Span)} {w : Publish (List ℕ) List} → OnBoth PublishItems m.props w.props → Items (publish m) (publish w)
    of_ack : {k : ℕ} {m : Ack Span (λ A. Span)} {w : Ack (List ℕ) List} → OnBoth (PropsItems ack_row) m.props w.props → Items (ack k m) (ack k w)
    of_subscribe : {m : Subscribe Span (λ A. Span)} {w : Subscribe (List ℕ) List} → OnBoth (PropsItems subscribe_row) m.props w.props → Lists (filter_at as_places s m.filters) (say_filter s) w.filters
        → Items (subscribe m) (subscribe w)
    of_reply : {k : ℕ} {m : Reply Span (λ A. Span)} {w : Reply (List ℕ) List} → OnBoth (PropsItems ack_row) m.props w.props → Lists (reason_at s m.reasons (reasons_of k)) (λ c. c) w.reasons
        → Items (reply k m) (reply k w)
    of_unsubscribe : {m : Unsubscribe Span (λ A. Span)} {w : Unsubscribe (List ℕ) List} → OnBoth (PropsItems unsubscribe_row) m.props w.props → Lists (topic_at as_places s m.topics) (held_of s) w.topics
        → Items (unsubscribe m) (unsubscribe w)
    of_ping : {k : ℕ} → Items (ping k) (ping k)
