-- What the code of a writer goes by: the contract from the answer and the stores; for each kind its tests, its sums and its bytes one after
-- the other; and a list's items by the index of a length and the place in the run. Assumes nothing.
use mathlib.Core.Path.{◌≡◌, refl, sym, ap, ◌∙◌}
use mathlib.Core.Bool.{Bool, true, false, ◌&&◌, cond}
use mathlib.Core.Logic.{◌⊎◌, inl, inr}
use mathlib.Core.Option.{Option}
use mathlib.Core.List.{List, [], ◌∷◌, ◌++◌, map, append_assoc, append-nil}
use Prim.Native.Nat.{ℕ, ◌+◌, ◌-◌, ◌≤◌, ◌<◌}
use native.Mathlib.Omega.{arith}
use native.Mathlib.Numerals.{add-one}
use lib.Dec.{eqb, leb}
use lib.ListN.{length, take, drop, get_or, drop_of_length-le}
use lib.Seq.{drop-cons, drop-drop, sets}
use borrow.Author.Tests.{le-leb, lt-leb, eqb-true}
use Rattle.grammar.specs.Tables.{u8, u16, u32, number, text, bytes, pair, publish_row, subscribe_row, ack_row, unsubscribe_row, reasons_of}
use Rattle.reading.specs.Refusal.{Refusal}
use Rattle.reading.specs.Reader.{Fit, got, bad, ◌>>◌}
use Rattle.writing.specs.Lists.{flat, sum}
use Rattle.writing.specs.Handed.{Lent, Run, PublishHanded, SubscribeHanded, AckHanded, ReplyHanded, UnsubscribeHanded, Handed, publish, ack, subscribe, reply, unsubscribe, ping, one, lent, pairs, several, publish_given, subscribe_given, ack_given, unsubscribe_given, strings, filters, adds_up, row_belongs, block_belongs, filters_belong, belongs}
use Rattle.writing.specs.Spell.{wide, short, string, props_bytes, counted, block, filter_bytes}
use Rattle.writing.specs.Size.{most, with_length, given_size, props_size, is_plain, rest_is, size_is, cap}
use Rattle.writing.specs.Order.{judge, Field, raw, word, code, field_tests, filter_field, fields_of, permit}
use Rattle.writing.specs.Write.{first_byte, ident_bytes, body_bytes, frame_bytes, write_of, answer_of, Written}
use Rattle.writing.specs.Refuse.{Belongs}
use Rattle.writing.proofs.Each.{flat_append}
use Rattle.writing.proofs.Tests.{eq_when, eq_not, le_or, same_test}
use Rattle.writing.proofs.Belong.{belongs_when}
use Rattle.writing.proofs.Sizes.{length_props, length_body}
use Rattle.writing.proofs.Judge.{judge_append, fields_more}
use Rattle.writing.proofs.Demand.{out_refused, out_sets}
use Rattle.writing.proofs.Pins.{publish_order, subscribe_order, ack_order, reply_order, unsubscribe_order}

-- ---- the contract

module _ (limit : Option ℕ) (h : Handed) (before : List ℕ) where
  -- permitted: the frame is stored from place 0 on, and the answer is the size
  pub writes_all : permit limit (length before) h ≡ got tt → (after : List ℕ) → after ≡ sets before 0 (frame_bytes h) → Written limit h before after (got (size_is h))
  unfolding write_of answer_of
  writes_all p after e = record { answer = rw p; output = e ∙ sym (out_sets limit before h (frame_bytes h) (rw p)) }

  -- refused: nothing is stored
  pub writes_none : (k : Refusal) → permit limit (length before) h ≡ bad k → Written limit h before before (bad k)
  unfolding write_of answer_of
  writes_none k p = record { answer = rw p; output = sym (out_refused limit before h k (rw p)) }

-- ---- 20: what belongs together, for each kind

pub publish_belongs : (h : PublishHanded) → belongs (publish h)
    ≡ (row_belongs h.block (one h.format)
    && (row_belongs h.block (one h.expiry)
    && (row_belongs h.block (one h.alias)
    && (row_belongs h.block (lent h.response)
    && (row_belongs h.block (lent h.correlation)
    && (row_belongs h.block (pairs h.user)
    && (row_belongs h.block (several h.subscriptions)
    && (row_belongs h.block (lent h.content)
    && true))))))))
unfolding belongs block_belongs publish_row publish_given
publish_belongs h = refl

pub ack_belongs : (k : ℕ) (h : AckHanded) → belongs (ack k h) ≡ (row_belongs h.block (lent h.text) && (row_belongs h.block (pairs h.user) && true))
unfolding belongs block_belongs ack_row ack_given
ack_belongs k h = refl

pub reply_belongs : (k : ℕ) (h : ReplyHanded) → belongs (reply k h) ≡ (row_belongs h.block (lent h.text) && (row_belongs h.block (pairs h.user) && true))
unfolding belongs block_belongs ack_row ack_given
reply_belongs k h = refl

pub unsubscribe_belongs : (h : UnsubscribeHanded) → belongs (unsubscribe h) ≡ ((row_belongs h.block (pairs h.user) && true) && adds_up h.topics)
unfolding belongs block_belongs unsubscribe_row unsubscribe_given
unsubscribe_belongs h = refl

pub subscribe_belongs : (h : SubscribeHanded) → belongs (subscribe h)
    ≡ ((row_belongs h.block (one h.subscription) && (row_belongs h.block (pairs h.user) && true)) && filters_belong h.filters h.options)
unfolding belongs block_belongs subscribe_row subscribe_given
subscribe_belongs h = refl

-- ---- 18, 9, 14 and 11: the fields of each kind, one after the other

fields_append : (fs gs : List Field) → judge (flat field_tests (fs ++ gs)) ≡ (judge (flat field_tests fs) >> judge (flat field_tests gs))
fields_append fs gs = rw (flat_append field_tests fs gs) (judge_append (flat field_tests fs) (flat field_tests gs))

-- a string that may be absent
abbrev pub judge_if : Bool → Field → Fit (Unit {0})
judge_if on f = cond on (judge (field_tests f)) (got tt)

pub judge_if_lem : (on : Bool) (f : Field) → judge (flat field_tests (cond on (f ∷ []) [])) ≡ judge_if on f
unfolding judge
judge_if_lem true f = ap judge (append-nil (field_tests f))
judge_if_lem false f = refl

-- a list of texts
abbrev pub judge_all : Run → Fit (Unit {0})
judge_all r = judge (flat field_tests (map word (strings r)))

pub publish_tests : (h : PublishHanded) → judge (flat field_tests (fields_of (publish h)))
    ≡ (judge (field_tests (raw h.topic))
    >> (judge_if h.response.on (word h.response.bytes)
    >> (judge_if h.correlation.on (raw h.correlation.bytes)
    >> (judge_all h.user
    >> judge_if h.content.on (word h.content.bytes)))))
publish_tests h =
    rw (
      publish_order h,
      fields_more (raw h.topic) _,
      fields_append (cond h.response.on (word h.response.bytes ∷ []) []) _,
      fields_append (cond h.correlation.on (raw h.correlation.bytes ∷ []) []) _,
      fields_append (map word (strings h.user)) _,
      append-nil (cond h.content.on (word h.content.bytes ∷ []) []),
      judge_if_lem h.response.on (word h.response.bytes),
      judge_if_lem h.correlation.on (raw h.correlation.bytes),
      judge_if_lem h.content.on (word h.content.bytes),
    )

-- the row of every acknowledgement
ack_row_tests : (t : Lent) (u : Run) → judge (flat field_tests (cond t.on (word t.bytes ∷ []) [] ++ (map word (strings u) ++ []))) ≡ (judge_if t.on (word t.bytes) >> judge_all u)
ack_row_tests t u = rw (
  fields_append (cond t.on (word t.bytes ∷ []) []) (map word (strings u) ++ []),
  append-nil (map word (strings u)),
  judge_if_lem t.on (word t.bytes),
)

pub ack_tests : (k : ℕ) (h : AckHanded) → judge (flat field_tests (fields_of (ack k h)))
    ≡ (judge (field_tests (code (reasons_of k) h.reason)) >> (judge_if h.text.on (word h.text.bytes) >> judge_all h.user))
ack_tests k h = rw (ack_order k h, fields_more (code (reasons_of k) h.reason) _, ack_row_tests h.text h.user)

pub reply_tests : (k : ℕ) (h : ReplyHanded) → judge (flat field_tests (fields_of (reply k h)))
    ≡ ((judge_if h.text.on (word h.text.bytes) >> judge_all h.user) >> judge (flat field_tests (map (code (reasons_of k)) h.reasons)))
reply_tests k h = rw (reply_order k h, fields_append (cond h.text.on (word h.text.bytes ∷ []) [] ++ (map word (strings h.user) ++ [])) (map (code (reasons_of k)) h.reasons), ack_row_tests h.text h.user)

pub unsubscribe_tests : (h : UnsubscribeHanded) → judge (flat field_tests (fields_of (unsubscribe h))) ≡ (judge_all h.user >> judge_all h.topics)
unsubscribe_tests h = rw (unsubscribe_order h, append-nil (map word (strings h.user)), fields_append (map word (strings h.user)) (map word (strings h.topics)))

pub subscribe_tests : (h : SubscribeHanded) → judge (flat field_tests (fields_of (subscribe h))) ≡ (judge_all h.user >> judge (flat field_tests (map filter_field (filters h))))
subscribe_tests h = rw (subscribe_order h, append-nil (map word (strings h.user)), fields_append (map word (strings h.user)) (map filter_field (filters h)))

-- ---- L, for each kind

pub publish_sum : (h : PublishHanded) → props_size publish_row (publish_given h)
    ≡ given_size u8 (one h.format)
    + (given_size u32 (one h.expiry)
    + (given_size u16 (one h.alias)
    + (given_size text (lent h.response)
    + (given_size bytes (lent h.correlation)
    + (given_size pair (pairs h.user)
    + (given_size number (several h.subscriptions)
    + (given_size text (lent h.content)
    + 0)))))))
unfolding props_size publish_row publish_given
publish_sum h = refl

pub ack_sum : (t : Lent) (u : Run) → props_size ack_row (ack_given t u) ≡ given_size text (lent t) + (given_size pair (pairs u) + 0)
unfolding props_size ack_row ack_given
ack_sum t u = refl

pub unsubscribe_sum : (u : Run) → props_size unsubscribe_row (unsubscribe_given u) ≡ given_size pair (pairs u) + 0
unfolding props_size unsubscribe_row unsubscribe_given
unsubscribe_sum u = refl

pub subscribe_sum : (h : SubscribeHanded) → props_size subscribe_row (subscribe_given h) ≡ given_size number (one h.subscription) + (given_size pair (pairs h.user) + 0)
unfolding props_size subscribe_row subscribe_given
subscribe_sum h = refl

-- ---- the bytes of each kind, one after the other, with R and L as sums

frame_sum : (h : Handed) → Belongs h → frame_bytes h ≡ first_byte h ∷ (short (rest_is h) ++ body_bytes h)
unfolding frame_bytes counted
frame_sum h w = rw (length_body h w)

pub publish_frame : (h : PublishHanded) → belongs (publish h) ≡ true → frame_bytes (publish h)
    ≡ first_byte (publish h) ∷ (short (rest_is (publish h)) ++ (string h.topic ++ (ident_bytes h.qos h.ident
    ++ (short (props_size publish_row (publish_given h)) ++ (props_bytes publish_row (publish_given h) ++ h.payload)))))
unfolding body_bytes block counted
publish_frame h e =
    let w : Belongs (publish h) = (belongs_when (publish h)).0 e in
    frame_sum (publish h) w
    ∙ rw (length_props publish_row h.block (publish_given h) w, append_assoc (short (props_size publish_row (publish_given h))) (props_bytes publish_row (publish_given h)) h.payload)

pub ack_frame : (k : ℕ) (h : AckHanded) → belongs (ack k h) ≡ true → frame_bytes (ack k h)
    ≡ first_byte (ack k h) ∷ (short (rest_is (ack k h)) ++ (wide 2 h.ident
    ++ cond (is_plain h) [] (h.reason ∷ (short (props_size ack_row (ack_given h.text h.user)) ++ props_bytes ack_row (ack_given h.text h.user)))))
unfolding body_bytes block counted
ack_frame k h e =
    let w : Belongs (ack k h) = (belongs_when (ack k h)).0 e in
    frame_sum (ack k h) w ∙ rw (length_props ack_row h.block (ack_given h.text h.user) w)

pub subscribe_frame : (h : SubscribeHanded) → belongs (subscribe h) ≡ true → frame_bytes (subscribe h)
    ≡ first_byte (subscribe h) ∷ (short (rest_is (subscribe h)) ++ (wide 2 h.ident
    ++ (short (props_size subscribe_row (subscribe_given h)) ++ (props_bytes subscribe_row (subscribe_given h) ++ flat filter_bytes (filters h)))))
unfolding body_bytes block counted
subscribe_frame h e =
    let w : Belongs (subscribe h) = (belongs_when (subscribe h)).0 e in
    frame_sum (subscribe h) w
    ∙ rw (length_props subscribe_row h.block (subscribe_given h) w.0, append_assoc (short (props_size subscribe_row (subscribe_given h))) (props_bytes subscribe_row (subscribe_given h)) (flat filter_bytes (filters h)))

pub reply_frame : (k : ℕ) (h : ReplyHanded) → belongs (reply k h) ≡ true → frame_bytes (reply k h)
    ≡ first_byte (reply k h) ∷ (short (rest_is (reply k h)) ++ (wide 2 h.ident
    ++ (short (props_size ack_row (ack_given h.text h.user)) ++ (props_bytes ack_row (ack_given h.text h.user) ++ h.reasons))))
unfolding body_bytes block counted
reply_frame k h e =
    let w : Belongs (reply k h) = (belongs_when (reply k h)).0 e in
    frame_sum (reply k h) w
    ∙ rw (length_props ack_row h.block (ack_given h.text h.user) w, append_assoc (short (props_size ack_row (ack_given h.text h.user))) (props_bytes ack_row (ack_given h.text h.user)) h.reasons)

pub unsubscribe_frame : (h : UnsubscribeHanded) → belongs (unsubscribe h) ≡ true → frame_bytes (unsubscribe h)
    ≡ first_byte (unsubscribe h) ∷ (short (rest_is (unsubscribe h)) ++ (wide 2 h.ident
    ++ (short (props_size unsubscribe_row (unsubscribe_given h.user)) ++ (props_bytes unsubscribe_row (unsubscribe_given h.user) ++ flat string (strings h.topics)))))
unfolding body_bytes block counted
unsubscribe_frame h e =
    let w : Belongs (unsubscribe h) = (belongs_when (unsubscribe h)).0 e in
    frame_sum (unsubscribe h) w
    ∙ rw (length_props unsubscribe_row h.block (unsubscribe_given h.user) w.0, append_assoc (short (props_size unsubscribe_row (unsubscribe_given h.user))) (props_bytes unsubscribe_row (unsubscribe_given h.user)) (flat string (strings h.topics)))

pub ping_frame : (k : ℕ) → frame_bytes (ping k) ≡ first_byte (ping k) ∷ (short 0 ++ [])
unfolding frame_bytes body_bytes counted
ping_frame k = refl

-- ---- lists: what is left of a run from place p on, with the lengths from index i on

abbrev pub run_from : Run → ℕ → ℕ → Run
run_from r i p = record { bytes = drop p r.bytes; lengths = drop i r.lengths }

module _ (r : Run) (i p : ℕ) where
  -- the i-th length, and the string of so many bytes at p
  abbrev pub length_at : ℕ
  length_at = get_or r.lengths i 0

  abbrev pub string_at : List ℕ
  string_at = take length_at (drop p r.bytes)

  pub strings_more : i < length r.lengths → strings (run_from r i p) ≡ string_at ∷ strings (run_from r (i + 1) (p + length_at))
  strings_more h = rw (drop-cons r.lengths i 0 h, add-one i, ← drop-drop length_at p r.bytes)

  pub strings_done : length r.lengths ≤ i → strings (run_from r i p) ≡ []
  strings_done h = rw (drop_of_length-le r.lengths h)

-- ---- sums that cannot overflow: lengths by subtraction, sizes cut off above the largest R

-- a length is no more than what is left, and the others add up to the rest
pub adds_more : (n : ℕ) (ns : List ℕ) (m : ℕ) → eqb (sum (n ∷ ns)) m ≡ (leb n m && eqb (sum ns) (m - n))
adds_more n ns m = go (le_or n m)
  where
    go : (n ≤ m) ⊎ (m < n) → eqb (n + sum ns) m ≡ (leb n m && eqb (sum ns) (m - n))
    go (inl h) = rw (le-leb n m h) (same_test (eqb (n + sum ns) m) (eqb (sum ns) (m - n)) left right)
      where
        left : eqb (n + sum ns) m ≡ true → eqb (sum ns) (m - n) ≡ true
        left e = let i : n + sum ns ≡ m = eqb-true (n + sum ns) m e in (eq_when (sum ns) (m - n)).1 (omega arith)

        right : eqb (sum ns) (m - n) ≡ true → eqb (n + sum ns) m ≡ true
        right e = let i : sum ns ≡ m - n = eqb-true (sum ns) (m - n) e in (eq_when (n + sum ns) m).1 (omega arith)
    go (inr h) = rw (lt-leb n m h) ((eq_not (n + sum ns) m).1 (λ e. omega arith))

-- the sum is cut off exactly if it is too large
pub cap_small : (n : ℕ) → n ≤ most → cap n ≡ n
cap_small n h = rw (le-leb n most h)

pub cap_large : (n : ℕ) → most < n → cap n ≡ most + 1
cap_large n h = rw (lt-leb n most h)

-- what was cut off stays so, whatever is added
pub cap_add : (m n : ℕ) → cap (cap m + n) ≡ cap (m + n)
cap_add m n = go (le_or m most)
  where
    go : (m ≤ most) ⊎ (most < m) → cap (cap m + n) ≡ cap (m + n)
    go (inl h) = ap (λ (k : ℕ). cap (k + n)) (cap_small m h)
    go (inr h) = ap (λ (k : ℕ). cap (k + n)) (cap_large m h) ∙ cap_large (most + 1 + n) (omega arith) ∙ sym (cap_large (m + n) (omega arith))

-- also where it is counted
pub cap_length : (n : ℕ) → cap (with_length (cap n)) ≡ cap (with_length n)
cap_length n = go (le_or n most)
  where
    go : (n ≤ most) ⊎ (most < n) → cap (with_length (cap n)) ≡ cap (with_length n)
    go (inl h) = ap (λ (k : ℕ). cap (with_length k)) (cap_small n h)
    go (inr h) = ap (λ (k : ℕ). cap (with_length k)) (cap_large n h) ∙ cap_large (with_length (most + 1)) (omega arith) ∙ sym (cap_large (with_length n) (omega arith))
