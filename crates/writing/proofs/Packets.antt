-- What each kind writes fills a frame as its grammar says. Assumes nothing.
use mathlib.Core.Path.{◌≡◌, refl, sym, ap, ◌∙◌}
use mathlib.Core.Bool.{Bool, true, false, not, ◌&&◌, ◌||◌, cond, false≢true}
use mathlib.Core.Option.{Option, some}
use mathlib.Core.List.{List, [], ◌∷◌, map}
use Prim.Native.Nat.{ℕ, zero, suc, ◌+◌, ◌*◌, ◌/◌, ◌%◌, ◌≤◌, ◌<◌}
use native.Mathlib.Omega.{arith}
use lib.Dec.{eqb, ltb, ltb→lt, eqb-suc-zero}
use lib.ListN.{length, length-append}
use borrow.Author.Tests.{eqb-true}
use Rattle.grammar.specs.Choice.{is_in, lookup, is_empty}
use Rattle.grammar.specs.Gram.{Only, both, sized, is}
use Rattle.grammar.specs.Number.{byte, Big}
use Rattle.grammar.specs.Tables.{publish_row, subscribe_row, ack_row, unsubscribe_row, Layout, a_publish, an_ack, a_subscribe, a_reply, an_unsubscribe, a_ping, kinds, reasons_of, firsts, first_of}
use Rattle.grammar.specs.Record.{kind_of, flag_qos, mk_publish, mk_ack, mk_filter, mk_subscribe, mk_reply, mk_unsubscribe, mk_ping}
use Rattle.grammar.specs.Sentence.{Any, Block, publish_of, props_if, not_three, not_zero, Ident, publish_good, some_of, AckRest, plain, full, Packet, Fields, body, framed, Sentence}
use Rattle.grammar.specs.Octets.{Each, nil, ◌&◌, Octets}
use Rattle.reading.proofs.Lists.{T_of, lookup_each}
use Rattle.writing.specs.Lists.{flat, beside}
use Rattle.writing.specs.Handed.{Lent, Run, PublishHanded, SubscribeHanded, AckHanded, ReplyHanded, UnsubscribeHanded, Handed, publish, ack, subscribe, reply, unsubscribe, ping, publish_given, subscribe_given, ack_given, unsubscribe_given, strings, prop_of, entries, filters}
use Rattle.writing.specs.Spell.{wide, props_bytes, counted, block}
use Rattle.writing.specs.Size.{most, is_plain}
use Rattle.writing.specs.Order.{Field, word, code, given_fields, props_fields, filter_field, fields_of, numbers_of, has_ident, has_entries}
use Rattle.writing.specs.Write.{first_byte, ident_bytes, body_bytes, frame_bytes}
use Rattle.writing.specs.Refuse.{InBlock, Belongs, Writable, Fine, Accepts}
use Rattle.writing.specs.Meant.{said, PublishTyped, AckTyped, SubscribeTyped, ReplyTyped, UnsubscribeTyped, Typed}
use Rattle.writing.proofs.Each.{each_head, each_tail, each_append, each_left, each_right, each_flat, each_piece, rows_of}
use Rattle.writing.proofs.Tests.{and_left, and_right, all_when, passes_when}
use Rattle.writing.proofs.Says.{Says, says_nothing, says_map, says_only, says_then, says_is, says_wide, says_short}
use Rattle.writing.proofs.Values.{says_bytes, an_u8, an_u16, an_u32, a_number, a_text, a_bytes, Apart, RightRow, says_block, one_once, lent_once, one_suits, below_each, lent_suits, pairs_suit, several_suit, says_filters, says_reasons, says_topics}
use Rattle.writing.proofs.Sets.{publish_says, ack_says, subscribe_says, unsubscribe_says}
use Rattle.writing.proofs.Belong.{unnamed_when, unasked_when, plain_when, nothing_entries}
use Rattle.writing.proofs.Sizes.{length_body}

-- ---- the kinds that are carried, row by row

-- the first byte of the table is of the kind
first_fine : ℕ → Bool
first_fine k = eqb (kind_of (first_of k)) k && ltb (first_of k) 256

-- it is for each kind but Publish
abbrev row_fine : ℕ → Layout → Bool
row_fine k a_publish = true
row_fine k (an_ack rs) = first_fine k
row_fine k a_subscribe = first_fine k
row_fine k (a_reply rs) = first_fine k
row_fine k an_unsubscribe = first_fine k
row_fine k a_ping = first_fine k

-- by computation over the table
kinds_fine : (k : ℕ) (l : Layout) → lookup kinds k ≡ some l → row_fine k l ≡ true
unfolding kinds firsts first_of first_fine
kinds_fine = lookup_each (λ r. row_fine r.0 r.1 ≡ true) ((all_when (λ r. row_fine r.0 r.1) (λ r. (λ e. e, λ e. e)) kinds).0 refl)

record First (k : ℕ) : Type 0 where
  kind : kind_of (first_of k) ≡ k
  octet : first_of k < 256

octet_of : (x : ℕ) → ltb x 256 ≡ true → x < 256
octet_of x e = ltb→lt x 256 (T_of (ltb x 256) e)

first_of_lem : (k : ℕ) → first_fine k ≡ true → First k
unfolding first_fine
first_of_lem k e =
    let a : Bool = eqb (kind_of (first_of k)) k in
    let b : Bool = ltb (first_of k) 256 in
    record { kind = eqb-true (kind_of (first_of k)) k (and_left a b e); octet = octet_of (first_of k) (and_right a b e) }

-- ---- the frame around a body

says_frame : (l : Layout) (x : ℕ) {v : Packet} {b : List ℕ} → lookup kinds (kind_of x) ≡ some l → x < 256 → length b ≤ most → Says (Fields l x) v b → Says Sentence v (x ∷ counted b)
unfolding counted
says_frame l x {b = b} e h m s =
    let n = says_short (length b) m in
    record { spelled = framed (both byte (sized n.spelled (is tt))) (body e s.spelled); octets = h & each_append n.octets s.octets }

-- a first byte of the table
says_first : (l : Layout) (k : ℕ) {v : Packet} {b : List ℕ} → lookup kinds k ≡ some l → First k → length b ≤ most → Says (Fields l (first_of k)) v b → Says Sentence v (first_of k ∷ counted b)
says_first l k e f m s = says_frame l (first_of k) (ap (lookup kinds) f.kind ∙ e) f.octet m s

-- a block stands within what it stands in
block_fits : (b : List ℕ) → length (counted b) ≤ most → length b ≤ most
unfolding counted
block_fits b h = omega (arith, simp length-append at h)

-- ---- no place has an identifier twice

publish_apart : Apart [] publish_row.forms
unfolding publish_row
publish_apart = (refl, (refl, (refl, (refl, (refl, (refl, (refl, (refl, tt))))))))

subscribe_apart : Apart [] subscribe_row.forms
unfolding subscribe_row
subscribe_apart = (refl, (refl, tt))

ack_apart : Apart [] ack_row.forms
unfolding ack_row
ack_apart = (refl, (refl, tt))

unsubscribe_apart : Apart [] unsubscribe_row.forms
unfolding unsubscribe_row
unsubscribe_apart = (refl, tt)

-- ---- Publish

publish_rows : (h : PublishHanded) → PublishTyped h → Each (λ r. Each Writable (given_fields r.1 (publish_given h r.0))) publish_row.forms → Each Fine h.subscriptions → Each (RightRow publish_row (publish_given h)) publish_row.forms
unfolding publish_row publish_given
publish_rows h t (_ & (_ & (_ & (a & (b & (c & (_ & (d & nil)))))))) q = rows_of (RightRow publish_row (publish_given h)) publish_row.forms
    (record { known = refl; small = omega arith; suits = one_suits _ (λ n b. an_u8 b) h.format (below_each 256 h.format t.format); once = λ _. one_once h.format }
    & (record { known = refl; small = omega arith; suits = one_suits _ (λ n b. an_u32 b) h.expiry (below_each 4294967296 h.expiry t.expiry); once = λ _. one_once h.expiry }
    & (record { known = refl; small = omega arith; suits = one_suits _ (λ n b. an_u16 b) h.alias (below_each 65536 h.alias t.alias); once = λ _. one_once h.alias }
    & (record { known = refl; small = omega arith; suits = lent_suits h.response (a_text t.response) a; once = λ _. lent_once h.response }
    & (record { known = refl; small = omega arith; suits = lent_suits h.correlation (a_bytes t.correlation) b; once = λ _. lent_once h.correlation }
    & (record { known = refl; small = omega arith; suits = pairs_suit h.user t.user c; once = λ e. absurd (false≢true (sym e)) }
    & (record { known = refl; small = omega arith; suits = several_suit q; once = λ e. absurd (false≢true (sym e)) }
    & (record { known = refl; small = omega arith; suits = lent_suits h.content (a_text t.content) d; once = λ _. lent_once h.content }
    & nil))))))))

says_ident : (q i : ℕ) → i < 65536 → (eqb q 0 || not_zero i) ≡ true → Says (Ident q) (cond (eqb q 0) 0 i) (ident_bytes q i)
says_ident zero i h e = says_nothing 0
says_ident (suc q) i h e = rw (eqb-suc-zero q) (go (eqb i 0) refl (rw (eqb-suc-zero q) at e))
  where
    go : (t : Bool) → eqb i 0 ≡ t → not t ≡ true → Says (Only not_zero (Big 2)) i (cond (eqb i 0) [] (wide 2 i))
    go true p n = absurd (false≢true n)
    go false p n = rw p (says_only not_zero (ap not p) (says_wide 2 i (omega arith)))

not_three_lem : (q : ℕ) → q < 3 → not_three q ≡ true
not_three_lem q h = ap not (go (eqb q 3) refl)
  where
    go : (t : Bool) → eqb q 3 ≡ t → eqb q 3 ≡ false
    go true e = absurd (omega (arith, eqb-true q 3 e))
    go false e = e

-- the flags of the first byte
module _ (d q r : ℕ) (hd : d < 2) (hq : q < 3) (hr : r < 2) where
  abbrev flags : ℕ
  flags = 0x30 + (8 * d + (2 * q + r))

  flags_kind : kind_of flags ≡ 3
  flags_kind = omega arith

  flags_dup : flags / 8 % 2 ≡ d
  flags_dup = omega arith

  flags_qos : flag_qos flags ≡ q
  flags_qos = omega arith

  flags_retain : flags % 2 ≡ r
  flags_retain = omega arith

publish_fields : (h : PublishHanded) → PublishTyped h → Each Writable (fields_of (publish h)) → has_ident (publish h) ≡ true → Each Fine h.subscriptions → length (body_bytes (publish h)) ≤ most
    → Says (Fields a_publish (first_byte (publish h))) (said (publish h)) (body_bytes (publish h))
unfolding first_byte body_bytes fields_of props_fields said block
publish_fields h t p i q l =
    let x : ℕ = flags h.dup h.qos h.retain t.dup t.qos t.retain in
    let j : ℕ = cond (eqb h.qos 0) 0 h.ident in
    let eq : flag_qos x ≡ h.qos = flags_qos h.dup h.qos h.retain t.dup t.qos t.retain in
    let s₁ = says_bytes t.topic (each_head p) in
    let s₂ : Says (Ident (flag_qos x)) j (ident_bytes h.qos h.ident) = rw eq (says_ident h.qos h.ident t.ident i) in
    let m : length (counted (props_bytes publish_row (publish_given h))) ≤ most = omega (arith, simp length-append at l) in
    let s₃ = says_block publish_row publish_of (publish_given h) publish_apart (publish_rows h t (each_flat _ publish_row.forms (each_tail p)) q) (block_fits (props_bytes publish_row (publish_given h)) m) in
    let s₄ = says_is Any h.payload tt t.payload in
    let same : mk_publish x (h.topic, (j, (publish_of (map prop_of (entries publish_row (publish_given h))), h.payload))) ≡ said (publish h) =
    rw (
      flags_dup h.dup h.qos h.retain t.dup t.qos t.retain,
      eq,
      flags_retain h.dup h.qos h.retain t.dup t.qos t.retain,
      publish_says h,
    ) in
    let good : not_three (flag_qos x) ≡ true = rw eq (not_three_lem h.qos t.qos) in
    rw (← same) (says_only (publish_good x) good (says_map (mk_publish x) (says_then s₁ (says_then s₂ (says_then s₃ s₄)))))

publish_kind : (h : PublishHanded) → PublishTyped h → (lookup kinds (kind_of (first_byte (publish h))) ≡ some a_publish) × (first_byte (publish h) < 256)
unfolding first_byte kinds
publish_kind h t = (rw (flags_kind h.dup h.qos h.retain t.dup t.qos t.retain), omega (arith, t.dup, t.qos, t.retain))

-- ---- acknowledgements

ack_rows : (t : Lent) (u : Run) → Octets t.bytes → Octets u.bytes → Each (λ r. Each Writable (given_fields r.1 (ack_given t u r.0))) ack_row.forms → Each (RightRow ack_row (ack_given t u)) ack_row.forms
unfolding ack_row ack_given
ack_rows t u o o' (a & (b & nil)) = rows_of (RightRow ack_row (ack_given t u)) ack_row.forms
    (record { known = refl; small = omega arith; suits = lent_suits t (a_text o) a; once = λ _. lent_once t }
    & (record { known = refl; small = omega arith; suits = pairs_suit u o' b; once = λ e. absurd (false≢true (sym e)) }
    & nil))

-- the block of every acknowledgement
ack_block : (t : Lent) (u : Run) → Octets t.bytes → Octets u.bytes → Each Writable (props_fields ack_row (ack_given t u)) → length (block ack_row (ack_given t u)) ≤ most
    → Says (Block ack_row props_if) (props_if (map prop_of (entries ack_row (ack_given t u)))) (block ack_row (ack_given t u))
unfolding props_fields block
ack_block t u o o' p l = says_block ack_row props_if (ack_given t u) ack_apart (ack_rows t u o o' (each_flat _ ack_row.forms p)) (block_fits (props_bytes ack_row (ack_given t u)) l)

ack_rest : (k : ℕ) (h : AckHanded) (t : AckTyped k h) → Each (InBlock h.block (ack_given h.text h.user)) ack_row.forms → is_in h.reason (reasons_of k) ≡ true
    → Each Writable (props_fields ack_row (ack_given h.text h.user))
    → (b : Bool) → is_plain h ≡ b → length (cond b [] (h.reason ∷ block ack_row (ack_given h.text h.user))) ≤ most
    → Says (AckRest ack_row (reasons_of k)) (h.reason, props_if (map prop_of (entries ack_row (ack_given h.text h.user)))) (cond b [] (h.reason ∷ block ack_row (ack_given h.text h.user)))
ack_rest k h t w c p true e l =
    let (success, absent) = (plain_when h).0 e in
    rw (nothing_entries ack_row h.block (ack_given h.text h.user) w absent, success) (record { spelled = plain; octets = nil })
ack_rest k h t w c p false e l =
    let s = ack_block h.text h.user t.text t.user p (omega arith) in
    record { spelled = full c s.spelled; octets = t.reason & s.octets }

ack_fields : (k : ℕ) (h : AckHanded) (t : AckTyped k h) → First k → Belongs (ack k h) → Each Writable (fields_of (ack k h)) → length (body_bytes (ack k h)) ≤ most
    → Says (Fields (an_ack (reasons_of k)) (first_of k)) (said (ack k h)) (body_bytes (ack k h))
unfolding fields_of body_bytes said
ack_fields k h t f w p l =
    let m : length (cond (is_plain h) [] (h.reason ∷ block ack_row (ack_given h.text h.user))) ≤ most = omega (arith, simp length-append at l) in
    let same : mk_ack (first_of k) (h.ident, (h.reason, props_if (map prop_of (entries ack_row (ack_given h.text h.user))))) ≡ said (ack k h) = rw (f.kind, ack_says h.text h.user) in
    rw (← same) (says_map (mk_ack (first_of k)) (says_then (says_wide 2 h.ident (omega (arith, t.ident))) (ack_rest k h t w (each_head p) (each_tail p) (is_plain h) refl m)))

-- ---- replies

reply_fields : (k : ℕ) (h : ReplyHanded) (t : ReplyTyped k h) → First k → Each Writable (fields_of (reply k h)) → has_entries (reply k h) ≡ true → length (body_bytes (reply k h)) ≤ most
    → Says (Fields (a_reply (reasons_of k)) (first_of k)) (said (reply k h)) (body_bytes (reply k h))
unfolding fields_of body_bytes said
reply_fields k h t f p a l =
    let ps : List Field = props_fields ack_row (ack_given h.text h.user) in
    let m : length (block ack_row (ack_given h.text h.user)) ≤ most = omega (arith, simp length-append at l) in
    let s₂ = ack_block h.text h.user t.text t.user (each_left ps (map (code (reasons_of k)) h.reasons) p) m in
    let s₃ = says_reasons (reasons_of k) h.reasons t.reasons (each_right ps (map (code (reasons_of k)) h.reasons) p) in
    let same : mk_reply (first_of k) (h.ident, (props_if (map prop_of (entries ack_row (ack_given h.text h.user))), h.reasons)) ≡ said (reply k h) = rw (f.kind, ack_says h.text h.user) in
    rw (← same) (says_map (mk_reply (first_of k)) (says_then (says_wide 2 h.ident (omega (arith, t.ident))) (says_then s₂ (says_only some_of a s₃))))

-- ---- Unsubscribe

unsubscribe_rows : (u : Run) → Octets u.bytes → Each (λ r. Each Writable (given_fields r.1 (unsubscribe_given u r.0))) unsubscribe_row.forms → Each (RightRow unsubscribe_row (unsubscribe_given u)) unsubscribe_row.forms
unfolding unsubscribe_row unsubscribe_given
unsubscribe_rows u o (b & nil) = rows_of (RightRow unsubscribe_row (unsubscribe_given u)) unsubscribe_row.forms
    (record { known = refl; small = omega arith; suits = pairs_suit u o b; once = λ e. absurd (false≢true (sym e)) } & nil)

unsubscribe_fields : (h : UnsubscribeHanded) → UnsubscribeTyped h → Each Writable (fields_of (unsubscribe h)) → has_entries (unsubscribe h) ≡ true → length (body_bytes (unsubscribe h)) ≤ most
    → Says (Fields an_unsubscribe (first_of 10)) (said (unsubscribe h)) (body_bytes (unsubscribe h))
unfolding fields_of props_fields body_bytes said block
unsubscribe_fields h t p a l =
    let ps : List Field = flat (λ r. given_fields r.1 (unsubscribe_given h.user r.0)) unsubscribe_row.forms in
    let m : length (counted (props_bytes unsubscribe_row (unsubscribe_given h.user))) ≤ most = omega (arith, simp length-append at l) in
    let s₂ = says_block unsubscribe_row props_if (unsubscribe_given h.user) unsubscribe_apart (unsubscribe_rows h.user t.user (each_flat _ unsubscribe_row.forms (each_left ps (map word (strings h.topics)) p)))
    (block_fits (props_bytes unsubscribe_row (unsubscribe_given h.user)) m) in
    let s₃ = says_topics (strings h.topics) (each_piece h.topics.lengths t.topics) (each_right ps (map word (strings h.topics)) p) in
    let same : mk_unsubscribe (h.ident, (props_if (map prop_of (entries unsubscribe_row (unsubscribe_given h.user))), strings h.topics)) ≡ said (unsubscribe h) = rw (unsubscribe_says h.user) in
    rw (← same) (says_map mk_unsubscribe (says_then (says_wide 2 h.ident (omega (arith, t.ident))) (says_then s₂ (says_only some_of a s₃))))

-- ---- Subscribe

subscribe_rows : (h : SubscribeHanded) → SubscribeTyped h → Each (λ r. Each Writable (given_fields r.1 (subscribe_given h r.0))) subscribe_row.forms → Each Fine (numbers_of (subscribe h)) → Each (RightRow subscribe_row (subscribe_given h)) subscribe_row.forms
unfolding subscribe_row subscribe_given
subscribe_rows h t (_ & (b & nil)) q = rows_of (RightRow subscribe_row (subscribe_given h)) subscribe_row.forms
    (record { known = refl; small = omega arith; suits = one_suits Fine (λ n s. a_number s) h.subscription q; once = λ _. one_once h.subscription }
    & (record { known = refl; small = omega arith; suits = pairs_suit h.user t.user b; once = λ e. absurd (false≢true (sym e)) }
    & nil))

each_beside : {ss : List (List ℕ)} (os : List ℕ) → Each Octets ss → Each (λ f. Octets f.0) (beside ss os)
each_beside os nil = nil
each_beside [] (p & ps) = nil
each_beside (o ∷ os) (p & ps) = p & each_beside os ps

some_mapped : (fs : List (List ℕ × ℕ)) → not (is_empty fs) ≡ true → some_of (map mk_filter fs) ≡ true
some_mapped [] e = e
some_mapped (f ∷ fs) e = refl

subscribe_fields : (h : SubscribeHanded) → SubscribeTyped h → Each Writable (fields_of (subscribe h)) → Each Fine (numbers_of (subscribe h)) → has_entries (subscribe h) ≡ true → length (body_bytes (subscribe h)) ≤ most
    → Says (Fields a_subscribe (first_of 8)) (said (subscribe h)) (body_bytes (subscribe h))
unfolding fields_of props_fields body_bytes said filters block
subscribe_fields h t p q a l =
    let fs : List (List ℕ × ℕ) = beside (strings h.filters) h.options in
    let ps : List Field = flat (λ r. given_fields r.1 (subscribe_given h r.0)) subscribe_row.forms in
    let m : length (counted (props_bytes subscribe_row (subscribe_given h))) ≤ most = omega (arith, simp length-append at l) in
    let s₁ = says_wide 2 h.ident (omega (arith, t.ident)) in
    let s₂ = says_block subscribe_row props_if (subscribe_given h) subscribe_apart (subscribe_rows h t (each_flat _ subscribe_row.forms (each_left ps (map filter_field fs) p)) q) (block_fits (props_bytes subscribe_row (subscribe_given h)) m) in
    let s₃ = says_filters fs (each_beside h.options (each_piece h.filters.lengths t.filters)) (each_right ps (map filter_field fs) p) in
    let same : mk_subscribe (h.ident, (props_if (map prop_of (entries subscribe_row (subscribe_given h))), map mk_filter fs)) ≡ said (subscribe h) = rw (subscribe_says h) in
    rw (← same) (says_map mk_subscribe (says_then s₁ (says_then s₂ (says_only some_of (some_mapped fs a) s₃))))

-- ---- all

frame_says : (limit : Option ℕ) (room : ℕ) (h : Handed) → Typed h → Accepts limit room h → length (body_bytes h) ≤ most → Says Sentence (said h) (first_byte h ∷ counted (body_bytes h))
unfolding first_byte body_bytes said kinds
frame_says limit room (publish h) t p l =
    let (e, b) = publish_kind h t in
    let n = (passes_when (has_ident (publish h)) (unnamed_when (publish h))).1 p.has_ident in
    says_frame a_publish (first_byte (publish h)) e b l (publish_fields h t p.countable.fields n p.numbers l)
frame_says limit room (ack k h) t p l =
    let f : First k = first_of_lem k (kinds_fine k (an_ack (reasons_of k)) t.kind) in
    says_first (an_ack (reasons_of k)) k t.kind f l (ack_fields k h t f p.countable.belongs p.countable.fields l)
frame_says limit room (subscribe h) t p l =
    let a = (passes_when (has_entries (subscribe h)) (unasked_when (subscribe h))).1 p.has_entries in
    says_first a_subscribe 8 refl (first_of_lem 8 (kinds_fine 8 a_subscribe refl)) l (subscribe_fields h t p.countable.fields p.numbers a l)
frame_says limit room (reply k h) t p l =
    let f : First k = first_of_lem k (kinds_fine k (a_reply (reasons_of k)) t.kind) in
    let a = (passes_when (has_entries (reply k h)) (unasked_when (reply k h))).1 p.has_entries in
    says_first (a_reply (reasons_of k)) k t.kind f l (reply_fields k h t f p.countable.fields a l)
frame_says limit room (unsubscribe h) t p l =
    let a = (passes_when (has_entries (unsubscribe h)) (unasked_when (unsubscribe h))).1 p.has_entries in
    says_first an_unsubscribe 10 refl (first_of_lem 10 (kinds_fine 10 an_unsubscribe refl)) l (unsubscribe_fields h t p.countable.fields a l)
frame_says limit room (ping k) t p l =
    let f : First k = first_of_lem k (kinds_fine k a_ping t) in
    let same : mk_ping (first_of k) [] ≡ said (ping k) = rw f.kind in
    says_first a_ping k t f l (rw (← same) (says_map (mk_ping (first_of k)) (says_is Any [] tt nil)))

-- 01: what is accepted is written as a sentence, in bytes
pub says_handed : (limit : Option ℕ) (room : ℕ) (h : Handed) → Typed h → Accepts limit room h → Says Sentence (said h) (frame_bytes h)
unfolding frame_bytes
says_handed limit room h t p = frame_says limit room h t p (rw (length_body h p.countable.belongs) p.countable.rest)
