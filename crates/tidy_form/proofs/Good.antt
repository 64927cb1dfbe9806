-- A packet that a sentence says, handed over to be written: the write is accepted, and what it means is that packet. Assumes nothing.
use mathlib.Core.Path.{◌≡◌, refl, sym, ap, ◌∙◌, subst}
use mathlib.Core.Bool.{Bool, true, false, not, cond, false≢true}
use mathlib.Core.Option.{Option, none, some}
use mathlib.Core.List.{List, [], ◌∷◌, map}
use Prim.Native.Nat.{ℕ, ◌+◌, ◌*◌, ◌/◌, ◌%◌, ◌≤◌, ◌<◌}
use native.Mathlib.Omega.{arith}
use lib.ListN.{length, length-append, length-map}
use Rattle.grammar.specs.Choice.{is_empty}
use Rattle.grammar.specs.Tables.{Form, u8, u16, u32, number, text, bytes, pair, publish_row, subscribe_row, ack_row, unsubscribe_row, reasons_of}
use Rattle.grammar.specs.Record.{num, str, last_of, all_of, PublishProps, publish_props, Props, props_of, Publish, Filter, Subscribe, Ack, Reply, Unsubscribe, mk_filter}
use Rattle.grammar.specs.Sentence.{Value, Prop, as_list, qos_fine, rule_fine, some_of, Packet}
use Rattle.grammar.specs.Record as g
use Rattle.grammar.specs.Octets.{Each, nil, ◌&◌, Octets}
use Rattle.writing.specs.Lists.{flat, total, beside}
use Rattle.writing.specs.Handed.{PublishHanded, SubscribeHanded, AckHanded, ReplyHanded, UnsubscribeHanded, Lent, Run, Handed, publish, ack, subscribe, reply, unsubscribe, ping, publish_given, subscribe_given, ack_given, unsubscribe_given, strings, filters}
use Rattle.writing.specs.Size.{most, with_length, props_size, is_plain, rest_is, size_is}
use Rattle.writing.specs.Order.{word, code, string_field, filter_field, fields_of, or_none, numbers_of}
use Rattle.writing.specs.Refuse.{Writable, Fine, Countable, LacksIdent, LacksEntries, Accepts}
use Rattle.writing.specs.Meant.{publish_set, subscribe_set, ack_set, unsubscribe_set, the_publish, the_ack, the_reply, meant, Below, Typed, Plain}
use Rattle.writing.proofs.Each.{each_append, rows_of}
use Rattle.writing.proofs.Values.{Suits, an_u8, an_u16, an_u32, a_number, a_text, a_bytes, low_qos, low_rule, low_filter}
use Rattle.tidy_form.specs.Tidy.{options_byte, lent_in, strings_in, run_of, publish_from, ack_from, subscribe_from, reply_from, unsubscribe_from, no_publish, no_props, with_set, handed_of}
use Rattle.tidy_form.proofs.Has.{SuitsIn}
use Rattle.tidy_form.proofs.Said.{PublishSaid, AckSaid, FilterSaid, filter_size, SubscribeSaid, ReasonSaid, ReplySaid, TopicSaid, UnsubscribeSaid, Said}
use Rattle.tidy_form.proofs.Rows.{Perhaps, last_absent, last_suits, all_suits, num_back, str_back, numbers_back, run_back, run_octets, run_adds, users_octets, users_back, RowGiven, row_one, row_lent, row_pairs, row_several}
use Rattle.tidy_form.proofs.Blocks.{Distinct, rows_belong, rows_sound, rows_light, rows_filled, with_list, set_list}

-- ---- values of a form

abbrev Num : ℕ → Value → Type 0
Num m v = (n : ℕ) × (v ≡ num n) × (n < m)

u8_num : (v : Value) → Suits u8 v → Num 256 v
u8_num _ (an_u8 {n} h) = (n, refl, h)

u16_num : (v : Value) → Suits u16 v → Num 65536 v
u16_num _ (an_u16 {n} h) = (n, refl, h)

u32_num : (v : Value) → Suits u32 v → Num 4294967296 v
u32_num _ (an_u32 {n} h) = (n, refl, h)

number_num : (v : Value) → Suits number v → (n : ℕ) × (v ≡ num n) × Fine n
number_num _ (a_number {n} h) = (n, refl, h)

abbrev Str : Form → Value → Type 0
Str f v = (s : List ℕ) × (v ≡ str s) × Octets s × Writable (string_field f s)

text_str : (v : Value) → Suits text v → Str text v
text_str _ (a_text {s} o h) = (s, refl, o, h)

bytes_str : (v : Value) → Suits bytes v → Str bytes v
bytes_str _ (a_bytes {s} o h) = (s, refl, o, h)

below : (m : ℕ) (o : Option ℕ) → Each (λ (n : ℕ). n < m) (or_none o) → Below m o
below m none p = tt
below m (some n) (p & nil) = p

-- ---- what is handed over for a packet v, and can be written

pub record Good (v : Packet) (h : Handed) : Type 0 where
  pub accepts : Accepts none (size_is h) h
  pub typed : Typed h
  pub plain : Plain h
  pub means : meant h ≡ v

-- with no limit, and as much room as is needed
fitting : (h : Handed) → Countable h → (LacksIdent h → ⊥) → Each Fine (numbers_of h) → (LacksEntries h → ⊥) → Accepts none (size_is h) h
fitting h c i n s = record { countable = c; within = tt; has_ident = i; numbers = n; has_entries = s; fits = omega arith }

-- ---- Publish

module _ (p : Publish (List ℕ) List) (ps : List Prop) (ss : Each (SuitsIn publish_row) ps) where
  abbrev pub publish_it : PublishHanded
  publish_it = publish_from p (not (is_empty ps)) (publish_props (List ℕ) List as_list ps)

  -- what each row says
  pub record PublishSet : Type 0 where
    format : Perhaps (Suits u8) (last_of 1 ps)
    expiry : Perhaps (Suits u32) (last_of 2 ps)
    alias : Perhaps (Suits u16) (last_of 35 ps)
    response : Perhaps (Suits text) (last_of 8 ps)
    correlation : Perhaps (Suits bytes) (last_of 9 ps)
    user : Each (Suits pair) (all_of 38 ps)
    subscriptions : Each (Suits number) (all_of 11 ps)
    content : Perhaps (Suits text) (last_of 3 ps)

  pub publish_rows_say : PublishSet
  unfolding publish_row
  publish_rows_say = record {
    format = last_suits publish_row 1 u8 refl ss;
    expiry = last_suits publish_row 2 u32 refl ss;
    alias = last_suits publish_row 35 u16 refl ss;
    response = last_suits publish_row 8 text refl ss;
    correlation = last_suits publish_row 9 bytes refl ss;
    user = all_suits publish_row 38 pair refl ss;
    subscriptions = all_suits publish_row 11 number refl ss;
    content = last_suits publish_row 3 text refl ss;
  }

  pub publish_rows : PublishSet → Each (λ r. RowGiven r.0 r.1 ps (publish_given publish_it r.0)) publish_row.forms
  unfolding publish_row publish_given publish_props
  publish_rows w = rows_of (λ r. RowGiven r.0 r.1 ps (publish_given publish_it r.0)) publish_row.forms
      (row_one 1 u8 ps (num_back _ u8_num w.format).1
      & (row_one 2 u32 ps (num_back _ u32_num w.expiry).1
      & (row_one 35 u16 ps (num_back _ u16_num w.alias).1
      & (row_lent 8 text ps (str_back text_str w.response).1 (str_back text_str w.response).2
      & (row_lent 9 bytes ps (str_back bytes_str w.correlation).1 (str_back bytes_str w.correlation).2
      & (row_pairs 38 ps w.user
      & (row_several 11 ps w.subscriptions
      & (row_lent 3 text ps (str_back text_str w.content).1 (str_back text_str w.content).2
      & nil))))))))

  publish_set_back : PublishSet → publish_set publish_it ≡ publish_props (List ℕ) List as_list ps
  unfolding publish_props
  publish_set_back w = rw (
    (num_back _ u8_num w.format).1,
    (num_back _ u32_num w.expiry).1,
    (num_back _ u16_num w.alias).1,
    (str_back text_str w.response).2,
    (str_back bytes_str w.correlation).2,
    users_back w.user,
    (numbers_back w.subscriptions).1,
    (str_back text_str w.content).2,
  )

pub publish_distinct : Distinct publish_row.forms
unfolding publish_row
publish_distinct = (refl, (refl, (refl, (refl, (refl, (refl, (refl, (refl, tt))))))))

pub publish_none : publish_props (List ℕ) List as_list [] ≡ no_publish
unfolding publish_props last_of all_of
publish_none = refl

publish_good_lem : (p : Publish (List ℕ) List) (w : PublishSaid p) → Good (g.publish p) (publish (publish_it p w.props.list w.props.suits))
unfolding rest_is fields_of meant publish_props
publish_good_lem p w =
    let ps : List Prop = w.props.list in
    let h : PublishHanded = publish_it p ps w.props.suits in
    let s = publish_rows_say p ps w.props.suits in
    let rows = publish_rows p ps w.props.suits s in
    let l = rows_light publish_row (publish_given h) ps rows publish_distinct w.size w.props.light (omega (arith, w.light)) in
    record {
      accepts = fitting (publish h) (record {
        belongs = rows_belong publish_row (publish_given h) ps rows;
        fields = w.topic & rows_sound publish_row (publish_given h) ps rows;
        rest = omega (arith, w.light);
      }) (λ t. w.has_ident t.0 t.1) (numbers_back s.subscriptions).0 (λ f. f);
      typed = record {
        dup = w.dup;
        qos = w.qos;
        retain = w.retain;
        topic = w.octets;
        ident = w.ident;
        format = below 256 h.format (num_back _ u8_num s.format).0;
        expiry = below 4294967296 h.expiry (num_back _ u32_num s.expiry).0;
        alias = below 65536 h.alias (num_back _ u16_num s.alias).0;
        response = (str_back text_str s.response).0;
        correlation = (str_back bytes_str s.correlation).0;
        user = users_octets s.user;
        content = (str_back text_str s.content).0;
        payload = w.payload;
      };
      plain = (w.unnamed, rows_filled publish_row (publish_given h) ps rows w.props.suits);
      means = ap (λ (o : Option (PublishProps (List ℕ) List)). the_publish h p.ident o) (set_list (publish_props (List ℕ) List as_list) ps (publish_set h) (publish_set_back p ps w.props.suits s) ∙ sym w.props.is);
    }

-- ---- acknowledgements

-- what is handed over for 31 and for 38
abbrev pub text_it : List Prop → Lent
text_it ps = lent_in (last_of 31 ps)

abbrev pub user_it : List Prop → Run
user_it ps = run_of (strings_in (all_of 38 ps))

-- the row of every acknowledgement
module _ (ps : List Prop) (ss : Each (SuitsIn ack_row) ps) where
  ack_text : Perhaps (Suits text) (last_of 31 ps)
  unfolding ack_row
  ack_text = last_suits ack_row 31 text refl ss

  ack_user : Each (Suits pair) (all_of 38 ps)
  unfolding ack_row
  ack_user = all_suits ack_row 38 pair refl ss

  pub ack_rows : Each (λ r. RowGiven r.0 r.1 ps (ack_given (text_it ps) (user_it ps) r.0)) ack_row.forms
  unfolding ack_row ack_given
  ack_rows = rows_of (λ r. RowGiven r.0 r.1 ps (ack_given (text_it ps) (user_it ps) r.0)) ack_row.forms
      (row_lent 31 text ps (str_back text_str ack_text).1 (str_back text_str ack_text).2
      & (row_pairs 38 ps ack_user
      & nil))

  ack_no_ident : last_of 11 ps ≡ none
  unfolding ack_row
  ack_no_ident = last_absent ack_row 11 refl ss

  ack_set_back : ack_set (text_it ps) (user_it ps) ≡ props_of (List ℕ) List as_list ps
  unfolding props_of
  ack_set_back = rw ((str_back text_str ack_text).2, ack_no_ident, users_back ack_user)

abbrev pub ack_it : Ack (List ℕ) List → List Prop → AckHanded
ack_it p ps = ack_from p (not (is_empty ps)) (props_of (List ℕ) List as_list ps)

pub ack_distinct : Distinct ack_row.forms
unfolding ack_row
ack_distinct = (refl, (refl, tt))

pub props_none : props_of (List ℕ) List as_list [] ≡ no_props
unfolding props_of last_of all_of
props_none = refl

plain_small : (t : Bool) (n : ℕ) → 3 + n ≤ most → cond t 2 (3 + n) ≤ most
plain_small true n h = omega arith
plain_small false n h = h

ack_good : (k : ℕ) (p : Ack (List ℕ) List) (w : AckSaid k p) → Good (g.ack k p) (ack k (ack_it p w.props.list))
unfolding rest_is fields_of meant props_of
ack_good k p w =
    let ps : List Prop = w.props.list in
    let h : AckHanded = ack_it p ps in
    let rows = ack_rows ps w.props.suits in
    let l = rows_light ack_row (ack_given h.text h.user) ps rows ack_distinct w.size w.props.light (omega (arith, w.light)) in
    record {
      accepts = fitting (ack k h) (record {
        belongs = rows_belong ack_row (ack_given h.text h.user) ps rows;
        fields = w.reason & rows_sound ack_row (ack_given h.text h.user) ps rows;
        rest = plain_small (is_plain h) (with_length (props_size ack_row (ack_given h.text h.user))) (omega (arith, w.light));
      }) (λ f. f) nil (λ f. f);
      typed = record {
        kind = w.kind;
        reason = w.octet;
        ident = w.ident;
        text = (str_back text_str (ack_text ps w.props.suits)).0;
        user = users_octets (ack_user ps w.props.suits);
      };
      plain = rows_filled ack_row (ack_given h.text h.user) ps rows w.props.suits;
      means = ap (λ (o : Option (Props (List ℕ) List)). the_ack k h o) (set_list (props_of (List ℕ) List as_list) ps (ack_set h.text h.user) (ack_set_back ps w.props.suits) ∙ sym w.props.is);
    }

-- ---- replies

abbrev pub reply_it : Reply (List ℕ) List → List Prop → ReplyHanded
reply_it p ps = reply_from p (not (is_empty ps)) (props_of (List ℕ) List as_list ps)

reasons_sound : (rs : List ℕ) {cs : List ℕ} → Each (ReasonSaid rs) cs → Each Writable (map (code rs) cs)
reasons_sound rs nil = nil
reasons_sound rs (p & ps) = p.0 & reasons_sound rs ps

reasons_octets : (rs : List ℕ) {cs : List ℕ} → Each (ReasonSaid rs) cs → Octets cs
reasons_octets rs nil = nil
reasons_octets rs (p & ps) = p.1 & reasons_octets rs ps

reasons_size : (cs : List ℕ) → total (λ c. 1) cs ≡ length cs
reasons_size [] = refl
reasons_size (c ∷ cs) = let e = reasons_size cs in omega arith

some_there : {A : Type 0} (l : List A) → some_of l ≡ true → l ≡ [] → ⊥
some_there [] t e = false≢true t
some_there (a ∷ l) t e = let z : ◌≡◌ {A = ℕ} 0 1 = cc in omega arith

reply_good : (k : ℕ) (p : Reply (List ℕ) List) (w : ReplySaid k p) → Good (g.reply k p) (reply k (reply_it p w.props.list))
unfolding rest_is fields_of meant props_of
reply_good k p w =
    let ps : List Prop = w.props.list in
    let h : ReplyHanded = reply_it p ps in
    let rows = ack_rows ps w.props.suits in
    let l = rows_light ack_row (ack_given h.text h.user) ps rows ack_distinct w.size w.props.light (omega (arith, w.light)) in
    record {
      accepts = fitting (reply k h) (record {
        belongs = rows_belong ack_row (ack_given h.text h.user) ps rows;
        fields = each_append (rows_sound ack_row (ack_given h.text h.user) ps rows) (reasons_sound (reasons_of k) w.reasons);
        rest = omega (arith, w.light, reasons_size p.reasons);
      }) (λ f. f) nil (some_there p.reasons w.has_entries);
      typed = record {
        kind = w.kind;
        ident = w.ident;
        text = (str_back text_str (ack_text ps w.props.suits)).0;
        user = users_octets (ack_user ps w.props.suits);
        reasons = reasons_octets (reasons_of k) w.reasons;
      };
      plain = rows_filled ack_row (ack_given h.text h.user) ps rows w.props.suits;
      means = ap (λ (o : Option (Props (List ℕ) List)). the_reply k h o) (set_list (props_of (List ℕ) List as_list) ps (ack_set h.text h.user) (ack_set_back ps w.props.suits) ∙ sym w.props.is);
    }

-- ---- Unsubscribe

module _ (ps : List Prop) (ss : Each (SuitsIn unsubscribe_row) ps) where
  unsubscribe_user : Each (Suits pair) (all_of 38 ps)
  unfolding unsubscribe_row
  unsubscribe_user = all_suits unsubscribe_row 38 pair refl ss

  pub unsubscribe_rows : Each (λ r. RowGiven r.0 r.1 ps (unsubscribe_given (user_it ps) r.0)) unsubscribe_row.forms
  unfolding unsubscribe_row unsubscribe_given
  unsubscribe_rows = rows_of (λ r. RowGiven r.0 r.1 ps (unsubscribe_given (user_it ps) r.0)) unsubscribe_row.forms (row_pairs 38 ps unsubscribe_user & nil)

  unsubscribe_nothing : (last_of 31 ps ≡ none) × (last_of 11 ps ≡ none)
  unfolding unsubscribe_row
  unsubscribe_nothing = (last_absent unsubscribe_row 31 refl ss, last_absent unsubscribe_row 11 refl ss)

  unsubscribe_set_back : unsubscribe_set (user_it ps) ≡ props_of (List ℕ) List as_list ps
  unfolding props_of
  unsubscribe_set_back = rw (unsubscribe_nothing.0, unsubscribe_nothing.1, users_back unsubscribe_user)

pub unsubscribe_distinct : Distinct unsubscribe_row.forms
unfolding unsubscribe_row
unsubscribe_distinct = (refl, tt)

abbrev pub unsubscribe_it : Unsubscribe (List ℕ) List → List Prop → UnsubscribeHanded
unsubscribe_it p ps = unsubscribe_from p (not (is_empty ps)) (props_of (List ℕ) List as_list ps)

-- the topics that are handed over
record TopicsBack (ts : List (List ℕ)) : Type 0 where
  sound : Each Writable (map word ts)
  octets : Each Octets ts
  sum : length (flat (λ s. s) ts) + 2 * length (map length ts) ≡ total (λ s. 2 + length s) ts

topics_back : {ts : List (List ℕ)} → Each TopicSaid ts → TopicsBack ts
topics_back nil = record { sound = nil; octets = nil; sum = refl }
topics_back (◌&◌ {a = t} {l = ts} w ws) =
    let r = topics_back ws in
    let h : Writable (word t) = (w.0, w.1) in
    record {
      sound = h & r.sound;
      octets = w.2 & r.octets;
      sum = rw (length-append t (flat (λ s. s) ts)) (omega (arith, r.sum));
    }

unsubscribe_good : (p : Unsubscribe (List ℕ) List) (w : UnsubscribeSaid p) → Good (g.unsubscribe p) (unsubscribe (unsubscribe_it p w.props.list))
unfolding rest_is fields_of meant props_of
unsubscribe_good p w =
    let ps : List Prop = w.props.list in
    let h : UnsubscribeHanded = unsubscribe_it p ps in
    let rows = unsubscribe_rows ps w.props.suits in
    let l = rows_light unsubscribe_row (unsubscribe_given h.user) ps rows unsubscribe_distinct w.size w.props.light (omega (arith, w.light)) in
    let b = topics_back w.topics in
    let e : strings h.topics ≡ p.topics = run_back p.topics in
    record {
      accepts = fitting (unsubscribe h) (record {
        belongs = (rows_belong unsubscribe_row (unsubscribe_given h.user) ps rows, run_adds p.topics);
        fields = each_append (rows_sound unsubscribe_row (unsubscribe_given h.user) ps rows) (rw e b.sound);
        rest = omega (arith, w.light, b.sum);
      }) (λ f. f) nil (λ q. some_there p.topics w.has_entries (sym e ∙ q));
      typed = record { ident = w.ident; user = users_octets (unsubscribe_user ps w.props.suits); topics = run_octets b.octets };
      plain = rows_filled unsubscribe_row (unsubscribe_given h.user) ps rows w.props.suits;
      means =
          ap (λ (ts : List (List ℕ)). g.unsubscribe (record { ident = p.ident; props = cond (not (is_empty ps)) (some (unsubscribe_set h.user)) none; topics = ts })) e
          ∙ ap (λ (o : Option (Props (List ℕ) List)). g.unsubscribe (record { ident = p.ident; props = o; topics = p.topics })) (set_list (props_of (List ℕ) List as_list) ps (unsubscribe_set h.user) (unsubscribe_set_back ps w.props.suits) ∙ sym w.props.is);
    }

-- ---- Subscribe

module _ (p : Subscribe (List ℕ) List) (ps : List Prop) (ss : Each (SuitsIn subscribe_row) ps) where
  abbrev pub subscribe_it : SubscribeHanded
  subscribe_it = subscribe_from p (not (is_empty ps)) (props_of (List ℕ) List as_list ps)

  subscribe_ident : Perhaps (Suits number) (last_of 11 ps)
  unfolding subscribe_row
  subscribe_ident = last_suits subscribe_row 11 number refl ss

  subscribe_user : Each (Suits pair) (all_of 38 ps)
  unfolding subscribe_row
  subscribe_user = all_suits subscribe_row 38 pair refl ss

  pub subscribe_rows : Each (λ r. RowGiven r.0 r.1 ps (subscribe_given subscribe_it r.0)) subscribe_row.forms
  unfolding subscribe_row subscribe_given props_of
  subscribe_rows = rows_of (λ r. RowGiven r.0 r.1 ps (subscribe_given subscribe_it r.0)) subscribe_row.forms
      (row_one 11 number ps (num_back Fine number_num subscribe_ident).1
      & (row_pairs 38 ps subscribe_user
      & nil))

  subscribe_no_reason : last_of 31 ps ≡ none
  unfolding subscribe_row
  subscribe_no_reason = last_absent subscribe_row 31 refl ss

  subscribe_set_back : subscribe_set subscribe_it ≡ props_of (List ℕ) List as_list ps
  unfolding props_of
  subscribe_set_back = rw (subscribe_no_reason, (num_back Fine number_num subscribe_ident).1, users_back subscribe_user)

pub subscribe_distinct : Distinct subscribe_row.forms
unfolding subscribe_row
subscribe_distinct = (refl, (refl, tt))

-- the options that a filter is handed over with are those that were read, with the two high bits 0
bits_3 : (o : ℕ) → o % 4 + 4 * (o / 4 % 2) ≡ o % 8
bits_3 o = omega arith

bits_4 : (o : ℕ) → o % 8 + 8 * (o / 8 % 2) ≡ o % 16
bits_4 o = omega arith

bits_6 : (o : ℕ) → o % 16 + 16 * (o / 16 % 4) ≡ o % 64
bits_6 o = omega arith

pub options_back : (s : List ℕ) (o : ℕ) → options_byte (mk_filter (s, o)) ≡ o % 64
options_back s o = rw (bits_3 o, bits_4 o, bits_6 o)

options_are : (f : Filter (List ℕ)) (w : FilterSaid f) → options_byte f ≡ w.options % 64
options_are f w = ap options_byte w.filter ∙ options_back f.path w.options

filter_back : (f : Filter (List ℕ)) → FilterSaid f → mk_filter (f.path, options_byte f) ≡ f
filter_back f w = ap (λ (n : ℕ). mk_filter (f.path, n)) (options_are f w) ∙ low_filter w.options f.path ∙ sym w.filter

filter_sound : (f : Filter (List ℕ)) → FilterSaid f → Writable (filter_field (f.path, options_byte f))
filter_sound f w =
    let e = options_are f w in
    let r : rule_fine (options_byte f) ≡ true = rw (e, low_rule w.options) w.rule in
    let q : qos_fine (options_byte f) ≡ true = rw (e, low_qos w.options) w.qos in
    (w.path, w.text, r, q)

abbrev pub paths_of : List (Filter (List ℕ)) → List (List ℕ)
paths_of fs = map (λ f. f.path) fs

-- the filters that are handed over
record FiltersBack (fs : List (Filter (List ℕ))) : Type 0 where
  sound : Each Writable (map filter_field (beside (paths_of fs) (map options_byte fs)))
  octets : Each Octets (paths_of fs)
  back : map mk_filter (beside (paths_of fs) (map options_byte fs)) ≡ fs
  sum : length (flat (λ s. s) (paths_of fs)) + 3 * length (map options_byte fs) ≡ total filter_size fs

filters_back : {fs : List (Filter (List ℕ))} → Each FilterSaid fs → FiltersBack fs
filters_back nil = record { sound = nil; octets = nil; back = refl; sum = refl }
filters_back (◌&◌ {a = f} {l = fs} w ws) =
    let r = filters_back ws in
    record {
      sound = filter_sound f w & r.sound;
      octets = w.octets & r.octets;
      back = ap (λ (x : Filter (List ℕ)). x ∷ map mk_filter (beside (paths_of fs) (map options_byte fs))) (filter_back f w) ∙ ap (λ (l : List (Filter (List ℕ))). f ∷ l) r.back;
      sum = rw (length-append f.path (flat (λ s. s) (paths_of fs))) (omega (arith, r.sum));
    }

some_filters : (fs : List (Filter (List ℕ))) → some_of fs ≡ true → beside (paths_of fs) (map options_byte fs) ≡ [] → ⊥
some_filters [] t e = false≢true t
some_filters (f ∷ fs) t e = let z : ◌≡◌ {A = ℕ} 0 1 = cc in omega arith

subscribe_good : (p : Subscribe (List ℕ) List) (w : SubscribeSaid p) → Good (g.subscribe p) (subscribe (subscribe_it p w.props.list w.props.suits))
unfolding rest_is fields_of meant props_of filters
subscribe_good p w =
    let ps : List Prop = w.props.list in
    let h : SubscribeHanded = subscribe_it p ps w.props.suits in
    let rows = subscribe_rows p ps w.props.suits in
    let l = rows_light subscribe_row (subscribe_given h) ps rows subscribe_distinct w.size w.props.light (omega (arith, w.light)) in
    let b = filters_back w.filters in
    let e : filters h ≡ beside (paths_of p.filters) (map options_byte p.filters) = ap (λ (ss : List (List ℕ)). beside ss (map options_byte p.filters)) (run_back (paths_of p.filters)) in
    let c : length (map length (paths_of p.filters)) ≡ length (map options_byte p.filters) = simp length-map in
    record {
      accepts = fitting (subscribe h) (record {
        belongs = (rows_belong subscribe_row (subscribe_given h) ps rows, (run_adds (paths_of p.filters), c));
        fields = each_append (rows_sound subscribe_row (subscribe_given h) ps rows) (rw e b.sound);
        rest = omega (arith, w.light, b.sum);
      }) (λ f. f) (num_back Fine number_num (subscribe_ident p ps w.props.suits)).0 (λ q. some_filters p.filters w.has_entries (sym e ∙ q));
      typed = record { ident = w.ident; user = users_octets (subscribe_user p ps w.props.suits); filters = run_octets b.octets };
      plain = rows_filled subscribe_row (subscribe_given h) ps rows w.props.suits;
      means =
          ap (λ (fs : List (Filter (List ℕ))). g.subscribe (record { ident = p.ident; props = cond (not (is_empty ps)) (some (subscribe_set h)) none; filters = fs })) (ap (map mk_filter) e ∙ b.back)
          ∙ ap (λ (o : Option (Props (List ℕ) List)). g.subscribe (record { ident = p.ident; props = o; filters = p.filters })) (set_list (props_of (List ℕ) List as_list) ps (subscribe_set h) (subscribe_set_back p ps w.props.suits) ∙ sym w.props.is);
    }

-- ---- every packet that a sentence says

ping_good : (k : ℕ) → Said (g.ping k) → Good (g.ping k) (ping k)
unfolding rest_is fields_of meant
ping_good k w = record {
  accepts = fitting (ping k) (record { belongs = tt; fields = nil; rest = omega arith }) (λ f. f) nil (λ f. f);
  typed = w;
  plain = tt;
  means = refl;
}

pub good : (v : Packet) → Said v → Good v (handed_of v)
unfolding handed_of
good (g.publish p) w =
    subst (λ (h : PublishHanded). Good (g.publish p) (publish h))
    (sym (ap (with_set (publish_from p) no_publish) w.props.is ∙ with_list (publish_props (List ℕ) List as_list) (publish_from p) no_publish publish_none w.props.list))
    (publish_good_lem p w)
good (g.ack k p) w =
    subst (λ (h : AckHanded). Good (g.ack k p) (ack k h))
    (sym (ap (with_set (ack_from p) no_props) w.props.is ∙ with_list (props_of (List ℕ) List as_list) (ack_from p) no_props props_none w.props.list))
    (ack_good k p w)
good (g.subscribe p) w =
    subst (λ (h : SubscribeHanded). Good (g.subscribe p) (subscribe h))
    (sym (ap (with_set (subscribe_from p) no_props) w.props.is ∙ with_list (props_of (List ℕ) List as_list) (subscribe_from p) no_props props_none w.props.list))
    (subscribe_good p w)
good (g.reply k p) w =
    subst (λ (h : ReplyHanded). Good (g.reply k p) (reply k h))
    (sym (ap (with_set (reply_from p) no_props) w.props.is ∙ with_list (props_of (List ℕ) List as_list) (reply_from p) no_props props_none w.props.list))
    (reply_good k p w)
good (g.unsubscribe p) w =
    subst (λ (h : UnsubscribeHanded). Good (g.unsubscribe p) (unsubscribe h))
    (sym (ap (with_set (unsubscribe_from p) no_props) w.props.is ∙ with_list (props_of (List ℕ) List as_list) (unsubscribe_from p) no_props props_none w.props.list))
    (unsubscribe_good p w)
good (g.ping k) w = ping_good k w
