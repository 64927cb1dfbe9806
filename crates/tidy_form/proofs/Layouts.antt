-- The tidy form of a frame, layout by layout, in the frame's own bytes: first byte, what stands before the properties, the properties in the
-- order of the row, and what stands behind them, with bits 6-7 of options bytes 0. Assumes nothing.
use mathlib.Core.Path.{◌≡◌, refl, sym, ap, ◌∙◌, subst}
use mathlib.Core.Bool.{Bool, true, false, cond, false≢true, ◌&&◌}
use mathlib.Core.Option.{Option, none, some}
use mathlib.Core.List.{List, [], ◌∷◌, ◌++◌, append-nil, append_assoc, map}
use Prim.Native.Nat.{ℕ, ◌+◌, ◌*◌, ◌-◌, ◌%◌, ◌≤◌, ◌<◌}
use native.Mathlib.Omega.{arith}
use lib.Dec.{eqb, leb}
use lib.ListN.{length, length-append, get_or}
use lib.Seq.{take-append_seam, drop-append_seam}
use borrow.Author.Tests.{eqb-true, le-leb}
use Rattle.grammar.specs.Choice.{lookup}
use Rattle.grammar.specs.Gram.{mapped, only, both, sized, done, more, Many, is}
use Rattle.grammar.specs.Number.{byte, Big, big, Spells}
use Rattle.grammar.specs.Octets.{Each, nil, ◌&◌, Octets}
use Rattle.grammar.specs.Tables.{u16, text, bytes, Row, publish_row, subscribe_row, ack_row, unsubscribe_row, is_list, form_at, Layout, a_publish, an_ack, a_subscribe, a_reply, an_unsubscribe, a_ping, kinds, first_of}
use Rattle.grammar.specs.Record.{num, str, PublishProps, publish_props, Props, props_of, Publish, Filter, Subscribe, Ack, Reply, Unsubscribe, mk_filter, kind_of, flag_dup, flag_qos, flag_retain}
use Rattle.grammar.specs.Record as g
use Rattle.grammar.specs.Sentence.{Prop, Property, none_twice, Block, publish_of, props_if, as_list, Bytes, Text, FilterOf, ReasonOf, plain, coded, full, Packet, Fields, body, framed, Sentence}
use Rattle.reading.specs.Refusal.{cut}
use Rattle.reading.specs.Reader.{got, only_by_of, sized_of, hand_fit, is_fit}
use Rattle.reading.specs.Read.{num_of, group_of, groups_of, bytes_of, string_fit}
use Rattle.reading.specs.Place.{as_places, Span, span_of}
use Rattle.reading.specs.Bounds.{after_length, ack_bounds, field_bounds, kind_bounds, frame_bounds}
use Rattle.reading.proofs.Lists.{lookup_each}
use Rattle.reading.proofs.Reading.{got_inj}
use Rattle.reading.proofs.Fields.{reads_big, reads_num, num_solid}
use Rattle.reading.proofs.Packets.{reads_ident}
use Rattle.reading.proofs.Demand.{free, reads_frame}
use Rattle.writing.specs.Lists.{flat, beside}
use Rattle.writing.specs.Handed.{Givens, Handed, publish, ack, subscribe, reply, unsubscribe, publish_given, subscribe_given, ack_given, unsubscribe_given, filters}
use Rattle.writing.specs.Spell.{spell_step, spell, short, wide, string, numeral, value, props_bytes, counted, block, filter_bytes}
use Rattle.writing.specs.Write.{first_byte, ident_bytes, body_bytes, frame_bytes}
use Rattle.writing.proofs.Each.{each_tail, each_left, each_right, rows_of}
use Rattle.writing.proofs.Tests.{all_when}
use Rattle.writing.proofs.Shortest.{one_spelling}
use Rattle.writing.proofs.Once.{value_once}
use Rattle.tidy_form.specs.Tidy.{options_byte, publish_from, ack_from, subscribe_from, reply_from, unsubscribe_from, no_publish, no_props, with_set, handed_of}
use Rattle.tidy_form.specs.Order.{ordered_bytes, Exact, ExactFilter, short_ack, AsIs, Masked, FrameLaid}
use Rattle.tidy_form.proofs.Has.{SuitsIn, has_property}
use Rattle.tidy_form.proofs.Rows.{many, RowGiven, run_back}
use Rattle.tidy_form.proofs.Blocks.{Distinct, with_list}
use Rattle.tidy_form.proofs.Good.{publish_it, publish_rows_say, publish_rows, publish_distinct, publish_none, text_it, user_it, ack_rows, ack_it, ack_distinct, props_none, reply_it, unsubscribe_rows, unsubscribe_distinct, unsubscribe_it, subscribe_it, subscribe_rows, subscribe_distinct, options_back, paths_of}
use Rattle.tidy_form.proofs.Form.{ident_form, first_again, publish_three, never}
use Rattle.tidy_form.proofs.Order.{props_ordered, ordered_length, properties_exact, exact_bytes}

-- ---- the block

-- what the table says of a place: no identifier stands twice, and each has its form
pub record Table (row : Row) : Type 0 where
  pub distinct : Distinct row.forms
  pub forms : Each (λ r. form_at row r.0 ≡ some r.1) row.forms

-- what is handed over for a row that is no list is one value at most
abbrev Singles : Row → Givens → Type 0
Singles row g = Each (λ r. many (g r.0) ≡ false → is_list row r.0 ≡ false) row.forms

pub suits_of : (row : Row) {ps : List Prop} {b : List ℕ} → Many (Property row) ps b → Octets b → Each (SuitsIn row) ps
suits_of row done o = nil
suits_of row (more {a = p} {b = b} {c = c} k m) o = (has_property row p b k (each_left b c o)).0 & suits_of row m (each_right b c o)

-- the properties q of a block that was read, and its length c
record BlockRead (row : Row) (ps : List Prop) (b : List ℕ) : Type 0 where
  number : List ℕ
  props : List ℕ
  whole : b ≡ number ++ props
  spelt : Spells (length props) number
  octets : Octets number
  exact : Many (Exact row) ps props
  suits : Each (SuitsIn row) ps
  single : none_twice row ps ≡ true

block_read : {A : Type 0} (row : Row) (f : List Prop → A) (a : A) (b : List ℕ) → Block row f a b → Octets b → (ps : List Prop) × (a ≡ f ps) × BlockRead row ps b
block_read row f _ _ (sized {b = b} {c = c} k (mapped {a = ps} (only t m))) o = (
  ps,
  refl,
  record {
    number = c;
    props = b;
    whole = refl;
    spelt = k;
    octets = each_left c b o;
    exact = properties_exact row m (each_right c b o);
    suits = suits_of row m (each_right c b o);
    single = t;
  },
)

module _ {row : Row} (t : Table row) {ps : List Prop} {b : List ℕ} (w : BlockRead row ps b) where
  as_many : length (ordered_bytes row ps) ≡ length w.props
  as_many = ordered_length row t.distinct w.suits ∙ ap length (sym (exact_bytes row w.exact))

  -- what is written for it: the same length, and the properties in order
  block_laid : (g : Givens) → Each (λ r. RowGiven r.0 r.1 ps (g r.0)) row.forms → Singles row g → block row g ≡ w.number ++ ordered_bytes row ps
  unfolding block counted
  block_laid g rows ls =
      let e : props_bytes row g ≡ ordered_bytes row ps = props_ordered row g ps rows w.single ls t.forms in
      rw (e, as_many) (ap (λ (l : List ℕ). l ++ ordered_bytes row ps) (sym (one_spelling (length w.props) w.number w.spelt w.octets)))

  -- 02, P7: where it starts and ends; r stands behind it
  block_bounds : (end : ℕ) (r : List ℕ) → after_length end (b ++ r) ≡ got (end - length (w.props ++ r), end - length r)
  block_bounds end r =
      let e : b ++ r ≡ w.number ++ (w.props ++ r) = ap (λ (l : List ℕ). l ++ r) w.whole ∙ append_assoc w.number w.props r in
      rw (e, (reads_num cut 4).whole (length w.props) w.number (w.props ++ r) w.spelt, drop-append_seam w.props r)

pub publish_table : Table publish_row
unfolding publish_row
publish_table = record { distinct = publish_distinct; forms = rows_of _ publish_row.forms (refl & refl & refl & refl & refl & refl & refl & refl & nil) }

pub ack_table : Table ack_row
unfolding ack_row
ack_table = record { distinct = ack_distinct; forms = rows_of _ ack_row.forms (refl & refl & nil) }

pub subscribe_table : Table subscribe_row
unfolding subscribe_row
subscribe_table = record { distinct = subscribe_distinct; forms = rows_of _ subscribe_row.forms (refl & refl & nil) }

pub unsubscribe_table : Table unsubscribe_row
unfolding unsubscribe_row
unsubscribe_table = record { distinct = unsubscribe_distinct; forms = rows_of _ unsubscribe_row.forms (refl & nil) }

-- ---- a body with a block

-- 02, P14: the body b of a frame, and what is written of it, h: the same front, the properties in order, and what T says of the rest
pub record Laid (row : Row) (T : List ℕ → List ℕ → Type 0) (h : Handed) (b : List ℕ) : Type 0 where
  pub front : List ℕ
  pub props : List ℕ
  pub tail : List ℕ
  pub other : List ℕ
  pub list : List Prop
  pub whole : b ≡ front ++ (props ++ tail)
  pub exact : Many (Exact row) list props
  pub light : length (ordered_bytes row list) ≡ length props
  pub kept : T tail other
  pub even : length other ≡ length tail
  pub form : body_bytes h ≡ front ++ (ordered_bytes row list ++ other)

-- and where the properties stand
record LaidAt (row : Row) (T : List ℕ → List ℕ → Type 0) (h : Handed) (l : Layout) (x : ℕ) (b : List ℕ) : Type 0 where
  laid : Laid row T h b
  bounds : (end : ℕ) → field_bounds l x end b ≡ got (end - length (laid.props ++ laid.tail), end - length laid.tail)

two_form : (n : ℕ) (b : List ℕ) → Big 2 n b → Octets b → b ≡ wide 2 n
unfolding value numeral
two_form n b k o = value_once u16 (num n) b (mapped k) o

-- a block between what stands before it and what stands behind
module _ {row : Row} (t : Table row) {ps : List Prop} {b₃ : List ℕ} (w : BlockRead row ps b₃) (T : List ℕ → List ℕ → Type 0) (h : Handed) (l : Layout) (x : ℕ) where
  laid_at : (b₁ tail other b : List ℕ) → b ≡ b₁ ++ (b₃ ++ tail) → body_bytes h ≡ b₁ ++ ((w.number ++ ordered_bytes row ps) ++ other) → T tail other → length other ≡ length tail
      → ((end : ℕ) → field_bounds l x end b ≡ after_length end (b₃ ++ tail)) → LaidAt row T h l x b
  laid_at b₁ tail other b e f k n d = record {
    laid = record {
      front = b₁ ++ w.number;
      props = w.props;
      tail = tail;
      other = other;
      list = ps;
      whole = e ∙ rw w.whole (simp append_assoc);
      exact = w.exact;
      light = as_many t w;
      kept = k;
      even = n;
      form = f ∙ simp append_assoc;
    };
    bounds = λ end. d end ∙ block_bounds t w end tail;
  }

-- ---- Publish

publish_singles : (h : _) → Singles publish_row (publish_given h)
unfolding publish_row publish_given
publish_singles h = rows_of (λ r. many (publish_given h r.0) ≡ false → is_list publish_row r.0 ≡ false) publish_row.forms
    ((λ e. refl) & (λ e. refl) & (λ e. refl) & (λ e. refl) & (λ e. refl) & (λ e. absurd (false≢true (sym e))) & (λ e. absurd (false≢true (sym e))) & (λ e. refl) & nil)

handed_publish : (p : Publish (List ℕ) List) (ps : List Prop) (ss : Each (SuitsIn publish_row) ps) → p.props ≡ publish_of ps → handed_of (g.publish p) ≡ publish (publish_it p ps ss)
unfolding handed_of
handed_publish p ps ss e = ap publish (ap (with_set (publish_from p) no_publish) e ∙ with_list (publish_props (List ℕ) List as_list) (publish_from p) no_publish publish_none ps)

string_form : {s b : List ℕ} → Bytes s b → Octets b → b ≡ string s
unfolding value
string_form {s} {b} k o = value_once bytes (str s) b (mapped k) o

-- the topic is passed
bytes_past : (end : ℕ) {s b : List ℕ} → Bytes s b → (r : List ℕ) → (p : Span) × (bytes_of as_places end (b ++ r) ≡ got (p, r))
unfolding bytes_of sized_of string_fit hand_fit is_fit
bytes_past end (sized {b = b} {c = c} k (is u)) r =
    let e : (c ++ b) ++ r ≡ c ++ (b ++ r) = append_assoc c b r in
    let l : leb (length b) (length (b ++ r)) ≡ true = le-leb (length b) (length (b ++ r)) (omega (arith, length-append b r)) in
    (span_of b (end - length r), rw (e, (reads_big cut 2).whole (length b) c (b ++ r) k, l, drop-append_seam b r, take-append_seam b r))

publish_laid : (x : ℕ) (v : Packet) (b : List ℕ) → Fields a_publish x v b → Octets b → LaidAt publish_row AsIs (handed_of v) a_publish x b
unfolding body_bytes field_bounds publish_props
publish_laid x _ _ (only t (mapped (both {a = s} {b = b₁} {d = d₁} k₁ (both {a = i} {b = b₂} {d = d₂} k₂ (both {a = a} {c = p} {b = b₃} {d = d₃} k₃ (is _)))))) o =
    let q₁ = each_right b₁ d₁ o in
    let q₂ = each_right b₂ d₂ q₁ in
    let j₁ : b₁ ≡ string s = string_form k₁ (each_left b₁ d₁ o) in
    let j₂ : b₂ ≡ ident_bytes (flag_qos x) i = ident_form (flag_qos x) i b₂ k₂ (each_left b₂ d₂ q₁) in
    let (ps, e, w) = block_read publish_row publish_of a b₃ k₃ (each_left b₃ d₃ q₂) in
    let m : Publish (List ℕ) List = record { dup = flag_dup x; qos = flag_qos x; retain = flag_retain x; topic = s; ident = i; props = a; payload = p } in
    let h = publish_it m ps w.suits in
    let f : block publish_row (publish_given h) ≡ w.number ++ ordered_bytes publish_row ps = block_laid publish_table w (publish_given h) (publish_rows m ps w.suits (publish_rows_say m ps w.suits)) (publish_singles h) in
    let z : body_bytes (handed_of (g.publish m)) ≡ (b₁ ++ b₂) ++ ((w.number ++ ordered_bytes publish_row ps) ++ p) = ap body_bytes (handed_publish m ps w.suits e) ∙ rw (← j₁, ← j₂, f) (sym (append_assoc b₁ b₂ _)) in
    laid_at publish_table w AsIs (handed_of (g.publish m)) a_publish x (b₁ ++ b₂) p p _ (sym (append_assoc b₁ b₂ (b₃ ++ p))) z refl refl
    (λ end. let (_, y) = bytes_past end k₁ (b₂ ++ (b₃ ++ p)) in rw (y, (reads_ident (flag_qos x)).whole i b₂ (b₃ ++ p) k₂))

-- ---- acknowledgements, Subscribe, Unsubscribe: an identifier, a block, entries

ack_singles : (said : _) (user : _) → Singles ack_row (ack_given said user)
unfolding ack_row ack_given
ack_singles said user = rows_of (λ r. many (ack_given said user r.0) ≡ false → is_list ack_row r.0 ≡ false) ack_row.forms ((λ e. refl) & (λ e. absurd (false≢true (sym e))) & nil)

subscribe_singles : (h : _) → Singles subscribe_row (subscribe_given h)
unfolding subscribe_row subscribe_given
subscribe_singles h = rows_of (λ r. many (subscribe_given h r.0) ≡ false → is_list subscribe_row r.0 ≡ false) subscribe_row.forms ((λ e. refl) & (λ e. absurd (false≢true (sym e))) & nil)

unsubscribe_singles : (user : _) → Singles unsubscribe_row (unsubscribe_given user)
unfolding unsubscribe_row unsubscribe_given
unsubscribe_singles user = rows_of (λ r. many (unsubscribe_given user r.0) ≡ false → is_list unsubscribe_row r.0 ≡ false) unsubscribe_row.forms ((λ e. absurd (false≢true (sym e))) & nil)

handed_ack : (k : ℕ) (p : Ack (List ℕ) List) (ps : List Prop) → p.props ≡ props_if ps → handed_of (g.ack k p) ≡ ack k (ack_it p ps)
unfolding handed_of
handed_ack k p ps e = ap (ack k) (ap (with_set (ack_from p) no_props) e ∙ with_list (props_of (List ℕ) List as_list) (ack_from p) no_props props_none ps)

handed_reply : (k : ℕ) (p : Reply (List ℕ) List) (ps : List Prop) → p.props ≡ props_if ps → handed_of (g.reply k p) ≡ reply k (reply_it p ps)
unfolding handed_of
handed_reply k p ps e = ap (reply k) (ap (with_set (reply_from p) no_props) e ∙ with_list (props_of (List ℕ) List as_list) (reply_from p) no_props props_none ps)

handed_unsubscribe : (p : Unsubscribe (List ℕ) List) (ps : List Prop) → p.props ≡ props_if ps → handed_of (g.unsubscribe p) ≡ unsubscribe (unsubscribe_it p ps)
unfolding handed_of
handed_unsubscribe p ps e = ap unsubscribe (ap (with_set (unsubscribe_from p) no_props) e ∙ with_list (props_of (List ℕ) List as_list) (unsubscribe_from p) no_props props_none ps)

handed_subscribe : (p : Subscribe (List ℕ) List) (ps : List Prop) (ss : Each (SuitsIn subscribe_row) ps) → p.props ≡ props_if ps → handed_of (g.subscribe p) ≡ subscribe (subscribe_it p ps ss)
unfolding handed_of
handed_subscribe p ps ss e = ap subscribe (ap (with_set (subscribe_from p) no_props) e ∙ with_list (props_of (List ℕ) List as_list) (subscribe_from p) no_props props_none ps)

-- ---- replies

reasons_form : (rs : List ℕ) {cs b : List ℕ} → Many (ReasonOf rs) cs b → b ≡ cs
reasons_form rs done = refl
reasons_form rs (more {a = c} (only t byte) m) = ap (λ (l : List ℕ). c ∷ l) (reasons_form rs m)

reply_laid : (rs : List ℕ) (x : ℕ) (v : Packet) (b : List ℕ) → Fields (a_reply rs) x v b → Octets b → LaidAt ack_row AsIs (handed_of v) (a_reply rs) x b
unfolding body_bytes field_bounds props_of
reply_laid rs x _ _ (mapped (both {a = i} {b = b₁} {d = d₁} k₁ (both {a = a} {c = cs} {b = b₃} {d = d₃} k₃ (only t m)))) o =
    let q₁ = each_right b₁ d₁ o in
    let j₁ : b₁ ≡ wide 2 i = two_form i b₁ k₁ (each_left b₁ d₁ o) in
    let (ps, e, w) = block_read ack_row props_if a b₃ k₃ (each_left b₃ d₃ q₁) in
    let p : Reply (List ℕ) List = record { ident = i; props = a; reasons = cs } in
    let f : block ack_row (ack_given (text_it ps) (user_it ps)) ≡ w.number ++ ordered_bytes ack_row ps = block_laid ack_table w (ack_given (text_it ps) (user_it ps)) (ack_rows ps w.suits) (ack_singles (text_it ps) (user_it ps)) in
    let z : body_bytes (handed_of (g.reply (kind_of x) p)) ≡ b₁ ++ ((w.number ++ ordered_bytes ack_row ps) ++ d₃) = ap body_bytes (handed_reply (kind_of x) p ps e) ∙ rw (← j₁, f, ← reasons_form rs m) in
    laid_at ack_table w AsIs (handed_of (g.reply (kind_of x) p)) (a_reply rs) x b₁ d₃ d₃ _ refl z refl refl
    (λ end. rw ((reads_big cut 2).whole i b₁ (b₃ ++ d₃) k₁))

-- ---- Unsubscribe

topics_form : {ts : List (List ℕ)} {b : List ℕ} → Many Text ts b → Octets b → b ≡ flat string ts
unfolding value
topics_form done o = refl
topics_form (more {a = t} {vs = ts} {b = b} {c = c} k m) o =
    let i : b ≡ string t = value_once text (str t) b (mapped k) (each_left b c o) in
    ap (λ (l : List ℕ). l ++ c) i ∙ ap (λ (l : List ℕ). string t ++ l) (topics_form m (each_right b c o))

unsubscribe_laid : (x : ℕ) (v : Packet) (b : List ℕ) → Fields an_unsubscribe x v b → Octets b → LaidAt unsubscribe_row AsIs (handed_of v) an_unsubscribe x b
unfolding body_bytes field_bounds props_of
unsubscribe_laid x _ _ (mapped (both {a = i} {b = b₁} {d = d₁} k₁ (both {a = a} {c = ts} {b = b₃} {d = d₃} k₃ (only t m)))) o =
    let q₁ = each_right b₁ d₁ o in
    let j₁ : b₁ ≡ wide 2 i = two_form i b₁ k₁ (each_left b₁ d₁ o) in
    let (ps, e, w) = block_read unsubscribe_row props_if a b₃ k₃ (each_left b₃ d₃ q₁) in
    let p : Unsubscribe (List ℕ) List = record { ident = i; props = a; topics = ts } in
    let f : block unsubscribe_row (unsubscribe_given (user_it ps)) ≡ w.number ++ ordered_bytes unsubscribe_row ps = block_laid unsubscribe_table w (unsubscribe_given (user_it ps)) (unsubscribe_rows ps w.suits) (unsubscribe_singles (user_it ps)) in
    let z : body_bytes (handed_of (g.unsubscribe p)) ≡ b₁ ++ ((w.number ++ ordered_bytes unsubscribe_row ps) ++ d₃) =
    ap body_bytes (handed_unsubscribe p ps e) ∙ rw (← j₁, f, run_back ts, ← topics_form m (each_right b₃ d₃ q₁)) in
    laid_at unsubscribe_table w AsIs (handed_of (g.unsubscribe p)) an_unsubscribe x b₁ d₃ d₃ _ refl z refl refl
    (λ end. rw ((reads_big cut 2).whole i b₁ (b₃ ++ d₃) k₁))

-- ---- Subscribe

filters_exact : {fs : List (Filter (List ℕ))} {b : List ℕ} → Many FilterOf fs b → Octets b → (zs : List (List ℕ × ℕ)) × (fs ≡ map mk_filter zs) × Many ExactFilter zs b
unfolding value
filters_exact done o = ([], refl, done)
filters_exact (more {vs = fs} {c = c} (mapped (both {a = s} {c = y} {b = b} {d = d} k (only q (only r byte)))) m) o =
    let (zs, e, n) = filters_exact m (each_right (b ++ d) c o) in
    let i : b ≡ string s = value_once text (str s) b (mapped k) (each_left b d (each_left (b ++ d) c o)) in
    ((s, y) ∷ zs, ap (λ (l : List (Filter (List ℕ))). mk_filter (s, y) ∷ l) e, more (record { spelt = both k (only q (only r byte)); bytes = ap (λ (l : List ℕ). l ++ (y ∷ [])) i }) n)

masked_length : {zs : List (List ℕ × ℕ)} {b : List ℕ} → Many ExactFilter zs b → length (flat filter_bytes zs) ≡ length b
masked_length done = refl
masked_length (more {a = z} {vs = zs} {b = b} {c = c} k m) =
    omega (
      arith,
      masked_length m,
      ap length k.bytes,
      length-append b c,
      length-append (string z.0) (z.1 ∷ []),
      length-append (string z.0) (z.1 % 64 ∷ []),
      length-append (string z.0 ++ (z.1 % 64 ∷ [])) (flat filter_bytes zs),
    )

low_twice : (o : ℕ) → o % 64 % 64 ≡ o % 64
low_twice o = omega arith

masked_again : (zs : List (List ℕ × ℕ)) → flat filter_bytes (beside (paths_of (map mk_filter zs)) (map options_byte (map mk_filter zs))) ≡ flat filter_bytes zs
masked_again [] = refl
masked_again (z ∷ zs) = rw (options_back z.0 z.1, low_twice z.1) (ap (λ (l : List ℕ). filter_bytes z ++ l) (masked_again zs))

subscribe_laid : (x : ℕ) (v : Packet) (b : List ℕ) → Fields a_subscribe x v b → Octets b → LaidAt subscribe_row Masked (handed_of v) a_subscribe x b
unfolding body_bytes field_bounds props_of filters
subscribe_laid x _ _ (mapped (both {a = i} {b = b₁} {d = d₁} k₁ (both {a = a} {c = fs} {b = b₃} {d = d₃} k₃ (only t m)))) o =
    let q₁ = each_right b₁ d₁ o in
    let j₁ : b₁ ≡ wide 2 i = two_form i b₁ k₁ (each_left b₁ d₁ o) in
    let (ps, e, w) = block_read subscribe_row props_if a b₃ k₃ (each_left b₃ d₃ q₁) in
    let p : Subscribe (List ℕ) List = record { ident = i; props = a; filters = fs } in
    let h = subscribe_it p ps w.suits in
    let (zs, r, n) = filters_exact m (each_right b₃ d₃ q₁) in
    let f : block subscribe_row (subscribe_given h) ≡ w.number ++ ordered_bytes subscribe_row ps = block_laid subscribe_table w (subscribe_given h) (subscribe_rows p ps w.suits) (subscribe_singles h) in
    let y : flat filter_bytes (beside (paths_of fs) (map options_byte fs)) ≡ flat filter_bytes zs = ap (λ (l : List (Filter (List ℕ))). flat filter_bytes (beside (paths_of l) (map options_byte l))) r ∙ masked_again zs in
    let z : body_bytes (handed_of (g.subscribe p)) ≡ b₁ ++ ((w.number ++ ordered_bytes subscribe_row ps) ++ flat filter_bytes zs) =
    ap body_bytes (handed_subscribe p ps w.suits e) ∙ rw (← j₁, f, run_back (paths_of fs), y) in
    laid_at subscribe_table w Masked (handed_of (g.subscribe p)) a_subscribe x b₁ d₃ (flat filter_bytes zs) _ refl z (record { list = zs; exact = n; bytes = refl }) (masked_length n)
    (λ end. rw ((reads_big cut 2).whole i b₁ (b₃ ++ d₃) k₁))

-- ---- acknowledgements of a publish

-- what follows the identifier where no properties do, as it was read and as it is written
data ShortRest : List ℕ → List ℕ → Type 0 where
  at_2 : ShortRest [] []
  at_3 : (c : ℕ) → ShortRest (c ∷ []) (cond (eqb c 0) [] (c ∷ 0 ∷ []))
  at_4 : (c : ℕ) → ShortRest (c ∷ 0 ∷ []) (cond (eqb c 0) [] (c ∷ 0 ∷ []))

-- a body with no properties
record AckShort (h : Handed) (l : Layout) (x : ℕ) (b : List ℕ) : Type 0 where
  high : ℕ
  low : ℕ
  rest : List ℕ
  other : List ℕ
  short_rest : ShortRest rest other
  whole : b ≡ high ∷ low ∷ rest
  form : body_bytes h ≡ high ∷ low ∷ other
  bounds : (end : ℕ) → field_bounds l x end b ≡ got (end, end)

data AckForm (h : Handed) (l : Layout) (x : ℕ) (b : List ℕ) : Type 0 where
  bare : AckShort h l x b → AckForm h l x b
  filled : (w : LaidAt ack_row AsIs h l x b) → 0 < length w.laid.props → AckForm h l x b

two_cells : (b : List ℕ) → length b ≡ 2 → (x y : ℕ) × (b ≡ x ∷ y ∷ [])
two_cells [] e = absurd (omega arith)
two_cells (x ∷ []) e = absurd (omega arith)
two_cells (x ∷ y ∷ []) e = (x, y, refl)
two_cells (x ∷ y ∷ z ∷ b) e = absurd (omega arith)

two_of : {n : ℕ} {b : List ℕ} → Big 2 n b → (x y : ℕ) × (b ≡ x ∷ y ∷ [])
two_of (big {b} e) = two_cells b e

-- no properties fill no bytes
none_fill : {row : Row} {b : List ℕ} → Many (Exact row) [] b → b ≡ []
none_fill done = refl

some_fill : {row : Row} {p : Prop} {ps : List Prop} {b : List ℕ} → Many (Exact row) (p ∷ ps) b → 0 < length b
some_fill (more {a = p} {b = b} {c = c} k m) = omega (arith, ap length k.bytes, length-append b c)

-- lengths of one byte
short_0 : short 0 ≡ 0 ∷ []
unfolding short spell spell_step
short_0 = refl

short_2 : short 2 ≡ 2 ∷ []
unfolding short spell spell_step
short_2 = refl

short_3 : short 3 ≡ 3 ∷ []
unfolding short spell spell_step
short_3 = refl

short_4 : short 4 ≡ 4 ∷ []
unfolding short spell spell_step
short_4 = refl

plain_rest : (t : Bool) (c : ℕ) (d : List ℕ) → d ≡ 0 ∷ [] → cond (t && true) [] (c ∷ d) ≡ cond t [] (c ∷ 0 ∷ [])
plain_rest true c d e = refl
plain_rest false c d e = ap (λ (l : List ℕ). c ∷ l) e

and-false : (t : Bool) → (t && false) ≡ false
and-false true = refl
and-false false = refl

-- a block has a byte at least, its length
block_some : {row : Row} {ps : List Prop} {b : List ℕ} → BlockRead row ps b → 0 < length b
block_some w = go w.number w.props (num_solid 4 (length w.props) w.number w.spelt) w.whole
  where
    go : {b : List ℕ} (n q : List ℕ) → (n ≡ [] → ⊥) → b ≡ n ++ q → 0 < length b
    go [] q h e = absurd (h refl)
    go (y ∷ n) q h e = omega (arith, ap length e)

-- L = 0
zero_bounds : (end c : ℕ) → ack_bounds end (c ∷ 0 ∷ []) ≡ got (end, end)
unfolding num_of only_by_of groups_of group_of
zero_bounds end c = let e : end - 0 ≡ end = omega arith in rw e

module _ (rs : List ℕ) (x i : ℕ) {b₁ : List ℕ} (k : Big 2 i b₁) (o : Octets b₁) where
  abbrev ack_of : ℕ → Option (Props (List ℕ) List) → Packet
  ack_of c a = g.ack (kind_of x) (record { ident = i; reason = c; props = a })

  -- with properties absent
  bare_body : (c : ℕ) → body_bytes (handed_of (ack_of c none)) ≡ b₁ ++ cond (eqb c 0) [] (c ∷ 0 ∷ [])
  unfolding body_bytes handed_of block counted props_bytes ack_row ack_given
  bare_body c = rw (← two_form i b₁ k o) (ap (λ (l : List ℕ). b₁ ++ l) (plain_rest (eqb c 0) c (short 0 ++ []) (rw short_0)))

  bare_of : (c : ℕ) (rest other : List ℕ) → ShortRest rest other → body_bytes (handed_of (ack_of c none)) ≡ b₁ ++ other → ((end : ℕ) → ack_bounds end rest ≡ got (end, end))
      → AckShort (handed_of (ack_of c none)) (an_ack rs) x (b₁ ++ rest)
  unfolding field_bounds
  bare_of c rest other r f d =
      let (y, z, e) = two_of k in
      record {
        high = y;
        low = z;
        rest = rest;
        other = other;
        short_rest = r;
        whole = ap (λ (l : List ℕ). l ++ rest) e;
        form = f ∙ ap (λ (l : List ℕ). l ++ other) e;
        bounds = λ end. rw ((reads_big cut 2).whole i b₁ rest k) (d end);
      }

  full_of : (c : ℕ) (a : Option (Props (List ℕ) List)) (b₃ : List ℕ) (ps : List Prop) → a ≡ props_if ps → BlockRead ack_row ps b₃ → AckForm (handed_of (ack_of c a)) (an_ack rs) x (b₁ ++ (c ∷ b₃))
  unfolding body_bytes field_bounds props_of laid_at
  full_of c a b₃ [] e w =
      let q : w.props ≡ [] = none_fill w.exact in
      let n : w.number ≡ 0 ∷ [] = one_spelling 0 w.number (rw q at w.spelt) w.octets ∙ short_0 in
      let j : b₃ ≡ 0 ∷ [] = w.whole ∙ rw (n, q) in
      rw (e, j) (bare (bare_of c (c ∷ 0 ∷ []) _ (at_4 c) (bare_body c) (λ end. zero_bounds end c)))
  full_of c a b₃ (p ∷ ps) e w =
      let m : Ack (List ℕ) List = record { ident = i; reason = c; props = a } in
      let f : block ack_row (ack_given (text_it (p ∷ ps)) (user_it (p ∷ ps))) ≡ w.number ++ ordered_bytes ack_row (p ∷ ps) = block_laid ack_table w (ack_given (text_it (p ∷ ps)) (user_it (p ∷ ps))) (ack_rows (p ∷ ps) w.suits) (ack_singles (text_it (p ∷ ps)) (user_it (p ∷ ps))) in
      let z : body_bytes (handed_of (ack_of c a)) ≡ (b₁ ++ (c ∷ [])) ++ ((w.number ++ ordered_bytes ack_row (p ∷ ps)) ++ []) =
      ap body_bytes (handed_ack (kind_of x) m (p ∷ ps) e) ∙ rw (← two_form i b₁ k o, and-false (eqb c 0), f, append-nil (w.number ++ ordered_bytes ack_row (p ∷ ps))) (sym (append_assoc b₁ (c ∷ []) _)) in
      let u : b₁ ++ (c ∷ b₃) ≡ (b₁ ++ (c ∷ [])) ++ (b₃ ++ []) = rw (append-nil b₃) (sym (append_assoc b₁ (c ∷ []) b₃)) in
      filled
      (laid_at ack_table w AsIs (handed_of (ack_of c a)) (an_ack rs) x (b₁ ++ (c ∷ [])) [] [] (b₁ ++ (c ∷ b₃)) u z refl refl
      (λ end. rw ((reads_big cut 2).whole i b₁ (c ∷ b₃) k, append-nil b₃) (long end b₃ (block_some w))))
      (some_fill w.exact)
    where
      long : (end : ℕ) (r : List ℕ) → 0 < length r → ack_bounds end (c ∷ r) ≡ after_length end r
      long end [] h = absurd (omega arith)
      long end (y ∷ r) h = refl

ack_laid : (rs : List ℕ) (x : ℕ) (v : Packet) (b : List ℕ) → Fields (an_ack rs) x v b → Octets b → AckForm (handed_of v) (an_ack rs) x b
ack_laid rs x _ _ (mapped (both {a = i} {b = b₁} k₁ plain)) o = bare (bare_of rs x i k₁ (each_left b₁ [] o) 0 [] [] at_2 (bare_body rs x i k₁ (each_left b₁ [] o) 0) (λ end. refl))
ack_laid rs x _ _ (mapped (both {a = i} {b = b₁} k₁ (coded {c} t))) o =
    bare (bare_of rs x i k₁ (each_left b₁ (c ∷ []) o) c (c ∷ []) _ (at_3 c) (bare_body rs x i k₁ (each_left b₁ (c ∷ []) o) c) (λ end. refl))
ack_laid rs x _ _ (mapped (both {a = i} {b = b₁} k₁ (full {c} {ps = a} {b = b₃} t k₃))) o =
    let q = each_tail (each_right b₁ (c ∷ b₃) o) in
    let (ps, e, w) = block_read ack_row props_if a b₃ k₃ q in
    full_of rs x i k₁ (each_left b₁ (c ∷ b₃) o) c a b₃ ps e w

-- ---- the frame

-- a frame whose fields are laid out
module _ (x : ℕ) (n b : List ℕ) (k : Spells (length b) n) (o : Octets n) where
  -- a body of the same length has the same number before it
  number_kept : (h : Handed) → length (body_bytes h) ≡ length b → frame_bytes h ≡ first_byte h ∷ (n ++ body_bytes h)
  unfolding frame_bytes counted
  number_kept h e = rw e (ap (λ (l : List ℕ). first_byte h ∷ (l ++ body_bytes h)) (sym (one_spelling (length b) n k o)))

  frame_laid : (row : Row) (T : List ℕ → List ℕ → Type 0) (h : Handed) (l : Layout) (w : LaidAt row T h l x b) (first start end : ℕ) → first_byte h ≡ first
      → field_bounds l x (length (x ∷ (n ++ b))) b ≡ got (start, end) → FrameLaid row T h first (x ∷ (n ++ b)) start end
  frame_laid row T h l w first start end f d =
      let z = w.laid in
      let y = got_inj (sym (w.bounds (length (x ∷ (n ++ b)))) ∙ d) in
      let s : length (x ∷ (n ++ b)) - length (z.props ++ z.tail) ≡ start = ap (λ (p : ℕ × ℕ). p.0) y in
      let t : length (x ∷ (n ++ b)) - length z.tail ≡ end = ap (λ (p : ℕ × ℕ). p.1) y in
      let i = length-append n b in
      let j = ap length z.whole in
      let j₁ = length-append z.front (z.props ++ z.tail) in
      let j₂ = length-append z.props z.tail in
      let j₃ = length-append n z.front in
      let p = ap length z.form in
      let p₁ = length-append z.front (ordered_bytes row z.list ++ z.other) in
      let p₂ = length-append (ordered_bytes row z.list) z.other in
      record {
        byte = x;
        head = n ++ z.front;
        props = z.props;
        tail = z.tail;
        other = z.other;
        list = z.list;
        whole = rw z.whole (ap (λ (l : List ℕ). x ∷ l) (sym (append_assoc n z.front (z.props ++ z.tail))));
        starts = omega arith;
        ends = omega arith;
        exact = z.exact;
        light = z.light;
        kept = z.kept;
        even = z.even;
        form = number_kept h (omega (arith, z.light, z.even)) ∙ rw (f, z.form) (ap (λ (l : List ℕ). first ∷ l) (sym (append_assoc n z.front (ordered_bytes row z.list ++ z.other))));
      }

-- ---- the first byte

-- by computation over the table: the number of a kind whose layout no other has
abbrev its_number : ℕ × Layout → Bool
its_number (k, a_publish) = eqb k 3
its_number (k, an_ack rs) = true
its_number (k, a_subscribe) = eqb k 8
its_number (k, a_reply rs) = true
its_number (k, an_unsubscribe) = eqb k 10
its_number (k, a_ping) = true

its_number_lem : (k : ℕ) (l : Layout) → lookup kinds k ≡ some l → its_number (k, l) ≡ true
unfolding kinds
its_number_lem k l e = lookup_each (λ r. its_number r ≡ true) ((all_when its_number (λ r. (λ e. e, λ e. e)) kinds).0 refl) k l e

publish_first : (x : ℕ) (v : Packet) (b : List ℕ) → Fields a_publish x v b → kind_of x ≡ 3 → first_byte (handed_of v) ≡ x
unfolding first_byte handed_of
publish_first x _ _ (only t (mapped (both {a = s} k₁ (both {a = i} k₂ (both {a = a} {c = p} k₃ k₄))))) e = go a ∙ sym (first_again x e)
  where
    go : (o : Option (PublishProps (List ℕ) List))
        → first_byte (publish (with_set (publish_from (record { dup = flag_dup x; qos = flag_qos x; retain = flag_retain x; topic = s; ident = i; props = a; payload = p })) no_publish o)) ≡ 0x30 + (8 * flag_dup x + (2 * flag_qos x + flag_retain x))
    go none = refl
    go (some ps) = refl

other_first : (l : Layout) (x : ℕ) (v : Packet) (b : List ℕ) → (l ≡ a_publish → ⊥) → lookup kinds (kind_of x) ≡ some l → Fields l x v b → first_byte (handed_of v) ≡ first_of (kind_of x)
unfolding first_byte handed_of
other_first a_publish x v b h e w = absurd (h refl)
other_first (an_ack rs) x _ b h e (mapped w) = refl
other_first a_subscribe x _ b h e (mapped w) = ap first_of (sym (eqb-true (kind_of x) 8 (its_number_lem (kind_of x) a_subscribe e)))
other_first (a_reply rs) x _ b h e (mapped w) = refl
other_first an_unsubscribe x _ b h e (mapped w) = ap first_of (sym (eqb-true (kind_of x) 10 (its_number_lem (kind_of x) an_unsubscribe e)))
other_first a_ping x _ b h e (mapped w) = refl

-- ---- of a sentence

-- a sentence, opened
pub record Opened (v : Packet) (c : List ℕ) : Type 0 where
  pub byte : ℕ
  pub number : List ℕ
  pub rest : List ℕ
  pub layout : Layout
  pub whole : c ≡ byte ∷ (number ++ rest)
  pub spelt : Spells (length rest) number
  pub carried : lookup kinds (kind_of byte) ≡ some layout
  pub fields : Fields layout byte v rest

pub opened : (v : Packet) (c : List ℕ) → Sentence v c → Opened v c
opened v _ (framed {x = x} (both byte (sized {b = b} {c = n} k (is _))) (body {l = l} e w)) = record { byte = x; number = n; rest = b; layout = l; whole = refl; spelt = k; carried = e; fields = w }

-- 02, P7: the two numbers are of the frame, whatever follows it
pub frame_at : (x : ℕ) (n b r : List ℕ) → Spells (length b) n → frame_bounds none ((x ∷ (n ++ b)) ++ r) ≡ kind_bounds (lookup kinds (kind_of x)) x (length (x ∷ (n ++ b))) b
unfolding frame_bounds
frame_at x n b r k =
    let c : List ℕ = x ∷ (n ++ b) in
    let e : length (c ++ r) - length r ≡ length c = omega (arith, length-append c r) in
    rw ((reads_frame none free (length (c ++ r))).whole (x, b) c r (both byte (sized k (is tt))), e)

pub bounds_alone : (v : Packet) (c r : List ℕ) → Sentence v c → frame_bounds none (c ++ r) ≡ frame_bounds none c
bounds_alone v c r s =
    let w = opened v c s in
    let e : frame_bounds none ((w.byte ∷ (w.number ++ w.rest)) ++ []) ≡ frame_bounds none ((w.byte ∷ (w.number ++ w.rest)) ++ r) = frame_at w.byte w.number w.rest [] w.spelt ∙ sym (frame_at w.byte w.number w.rest r w.spelt) in
    rw w.whole (sym (rw (append-nil (w.byte ∷ (w.number ++ w.rest))) at e))

-- an acknowledgement with no properties: every length of its frame is one byte
short_form : (x f high low : ℕ) (rest other : List ℕ) → ShortRest rest other
    → (4 ≤ length (x ∷ (short (length (high ∷ low ∷ rest)) ++ (high ∷ low ∷ rest)))) × (length (x ∷ (short (length (high ∷ low ∷ rest)) ++ (high ∷ low ∷ rest))) ≤ 6) × (f ∷ counted (high ∷ low ∷ other) ≡ short_ack f (x ∷ (short (length (high ∷ low ∷ rest)) ++ (high ∷ low ∷ rest))))
unfolding counted short_ack
short_form x f high low _ _ at_2 = rw short_2 (omega arith, omega arith, refl)
short_form x f high low _ _ (at_3 c) = rw short_3 (omega arith, omega arith, go (eqb c 0))
  where
    go : (t : Bool) → f ∷ (short (length (high ∷ low ∷ cond t [] (c ∷ 0 ∷ []))) ++ (high ∷ low ∷ cond t [] (c ∷ 0 ∷ []))) ≡ cond t (f ∷ 2 ∷ high ∷ low ∷ []) (f ∷ 4 ∷ high ∷ low ∷ c ∷ 0 ∷ [])
    go true = rw short_2
    go false = rw short_4
short_form x f high low _ _ (at_4 c) = rw short_4 (omega arith, omega arith, go (eqb c 0))
  where
    go : (t : Bool) → f ∷ (short (length (high ∷ low ∷ cond t [] (c ∷ 0 ∷ []))) ++ (high ∷ low ∷ cond t [] (c ∷ 0 ∷ []))) ≡ cond t (f ∷ 2 ∷ high ∷ low ∷ []) (f ∷ 4 ∷ high ∷ low ∷ c ∷ 0 ∷ [])
    go true = rw short_2
    go false = rw short_4

no_body : (x : ℕ) (v : Packet) (b : List ℕ) → Fields a_ping x v b → body_bytes (handed_of v) ≡ []
unfolding body_bytes handed_of
no_body x _ b (mapped w) = refl

module _ (v : Packet) (c : List ℕ) (s : Sentence v c) (o : Octets c) (start end : ℕ) (d : frame_bounds none c ≡ got (start, end)) where
  -- of the layout l, which the first byte says
  opened_as : (l : Layout) → lookup kinds (kind_of (get_or c 0 0)) ≡ some l → (w : Opened v c) × (w.layout ≡ l) × (get_or c 0 0 ≡ w.byte)
  opened_as l e =
      let w = opened v c s in
      let q : get_or c 0 0 ≡ w.byte = ap (λ (b : List ℕ). get_or b 0 0) w.whole in
      let z : some w.layout ≡ some l = sym w.carried ∙ ap (λ (k : ℕ). lookup kinds (kind_of k)) (sym q) ∙ e in
      (w, cc, q)

  module _ (w : Opened v c) (l : Layout) (e : w.layout ≡ l) where
    fields_as : Fields l w.byte v w.rest
    fields_as = subst (λ (m : Layout). Fields m w.byte v w.rest) e w.fields

    carried_as : lookup kinds (kind_of w.byte) ≡ some l
    carried_as = w.carried ∙ ap some e

    octets_as : Octets w.number × Octets w.rest
    octets_as = let q = each_tail (rw w.whole at o) in (each_left w.number w.rest q, each_right w.number w.rest q)

    bounds_as : field_bounds l w.byte (length (w.byte ∷ (w.number ++ w.rest))) w.rest ≡ got (start, end)
    bounds_as =
        let y = frame_at w.byte w.number w.rest [] w.spelt in
        let z : frame_bounds none (w.byte ∷ (w.number ++ w.rest)) ≡ kind_bounds (some l) w.byte (length (w.byte ∷ (w.number ++ w.rest))) w.rest = rw (append-nil (w.byte ∷ (w.number ++ w.rest)), carried_as) at y in
        sym z ∙ rw (← w.whole) d

    laid_as : (row : Row) (T : List ℕ → List ℕ → Type 0) → LaidAt row T (handed_of v) l w.byte w.rest → (first : ℕ) → first_byte (handed_of v) ≡ first → FrameLaid row T (handed_of v) first c start end
    laid_as row T z first f = rw w.whole (frame_laid w.byte w.number w.rest w.spelt octets_as.0 row T (handed_of v) l z first start end f bounds_as)

  pub publish_frame : lookup kinds (kind_of (get_or c 0 0)) ≡ some a_publish → FrameLaid publish_row AsIs (handed_of v) (get_or c 0 0) c start end
  publish_frame e =
      let (w, q, i) = opened_as a_publish e in
      let f = fields_as w a_publish q in
      laid_as w a_publish q publish_row AsIs (publish_laid w.byte v w.rest f (octets_as w a_publish q).1) (get_or c 0 0)
      (publish_first w.byte v w.rest f (publish_three (kind_of w.byte) (carried_as w a_publish q)) ∙ sym i)

  pub reply_frame : (rs : List ℕ) → lookup kinds (kind_of (get_or c 0 0)) ≡ some (a_reply rs) → FrameLaid ack_row AsIs (handed_of v) (first_of (kind_of (get_or c 0 0))) c start end
  reply_frame rs e =
      let (w, q, i) = opened_as (a_reply rs) e in
      let f = fields_as w (a_reply rs) q in
      laid_as w (a_reply rs) q ack_row AsIs (reply_laid rs w.byte v w.rest f (octets_as w (a_reply rs) q).1) (first_of (kind_of (get_or c 0 0)))
      (other_first (a_reply rs) w.byte v w.rest (λ z. never (cc)) (carried_as w (a_reply rs) q) f ∙ ap (λ (k : ℕ). first_of (kind_of k)) (sym i))

  pub unsubscribe_frame : lookup kinds (kind_of (get_or c 0 0)) ≡ some an_unsubscribe → FrameLaid unsubscribe_row AsIs (handed_of v) (first_of (kind_of (get_or c 0 0))) c start end
  unsubscribe_frame e =
      let (w, q, i) = opened_as an_unsubscribe e in
      let f = fields_as w an_unsubscribe q in
      laid_as w an_unsubscribe q unsubscribe_row AsIs (unsubscribe_laid w.byte v w.rest f (octets_as w an_unsubscribe q).1) (first_of (kind_of (get_or c 0 0)))
      (other_first an_unsubscribe w.byte v w.rest (λ z. never (cc)) (carried_as w an_unsubscribe q) f ∙ ap (λ (k : ℕ). first_of (kind_of k)) (sym i))

  pub subscribe_frame : lookup kinds (kind_of (get_or c 0 0)) ≡ some a_subscribe → FrameLaid subscribe_row Masked (handed_of v) (first_of (kind_of (get_or c 0 0))) c start end
  subscribe_frame e =
      let (w, q, i) = opened_as a_subscribe e in
      let f = fields_as w a_subscribe q in
      laid_as w a_subscribe q subscribe_row Masked (subscribe_laid w.byte v w.rest f (octets_as w a_subscribe q).1) (first_of (kind_of (get_or c 0 0)))
      (other_first a_subscribe w.byte v w.rest (λ z. never (cc)) (carried_as w a_subscribe q) f ∙ ap (λ (k : ℕ). first_of (kind_of k)) (sym i))

  -- 01, grammar: "`C0 00` and `D0 00` for pings"
  pub ping_frame : lookup kinds (kind_of (get_or c 0 0)) ≡ some a_ping → frame_bytes (handed_of v) ≡ first_of (kind_of (get_or c 0 0)) ∷ 0 ∷ []
  unfolding frame_bytes counted
  ping_frame e =
      let (w, q, i) = opened_as a_ping e in
      let f = fields_as w a_ping q in
      let z = other_first a_ping w.byte v w.rest (λ z. never (cc)) (carried_as w a_ping q) f ∙ ap (λ (k : ℕ). first_of (kind_of k)) (sym i) in
      rw (no_body w.byte v w.rest f, short_0, z)

  ack_first : (rs : List ℕ) → lookup kinds (kind_of (get_or c 0 0)) ≡ some (an_ack rs) → first_byte (handed_of v) ≡ first_of (kind_of (get_or c 0 0))
  ack_first rs e =
      let (w, q, i) = opened_as (an_ack rs) e in
      other_first (an_ack rs) w.byte v w.rest (λ z. never (cc)) (carried_as w (an_ack rs) q) (fields_as w (an_ack rs) q) ∙ ap (λ (k : ℕ). first_of (kind_of k)) (sym i)

  -- an acknowledgement with properties
  pub ack_frame : (rs : List ℕ) → lookup kinds (kind_of (get_or c 0 0)) ≡ some (an_ack rs) → start < end → FrameLaid ack_row AsIs (handed_of v) (first_of (kind_of (get_or c 0 0))) c start end
  ack_frame rs e h = let (w, q, i) = opened_as (an_ack rs) e in go w q (ack_laid rs w.byte v w.rest (fields_as w (an_ack rs) q) (octets_as w (an_ack rs) q).1)
    where
      go : (w : Opened v c) (q : w.layout ≡ an_ack rs) → AckForm (handed_of v) (an_ack rs) w.byte w.rest → FrameLaid ack_row AsIs (handed_of v) (first_of (kind_of (get_or c 0 0))) c start end
      go w q (bare z) =
          let y = got_inj (sym (z.bounds (length (w.byte ∷ (w.number ++ w.rest)))) ∙ bounds_as w (an_ack rs) q) in
          absurd (omega (arith, ap (λ (p : ℕ × ℕ). p.0) y, ap (λ (p : ℕ × ℕ). p.1) y))
      go w q (filled z n) = laid_as w (an_ack rs) q ack_row AsIs z (first_of (kind_of (get_or c 0 0))) (ack_first rs e)

  -- and without any
  pub ack_short : (rs : List ℕ) → lookup kinds (kind_of (get_or c 0 0)) ≡ some (an_ack rs) → end ≤ start → (4 ≤ length c) × (length c ≤ 6) × (frame_bytes (handed_of v) ≡ short_ack (first_of (kind_of (get_or c 0 0))) c)
  unfolding frame_bytes
  ack_short rs e h = let (w, q, i) = opened_as (an_ack rs) e in go w q (ack_laid rs w.byte v w.rest (fields_as w (an_ack rs) q) (octets_as w (an_ack rs) q).1)
    where
      go : (w : Opened v c) (q : w.layout ≡ an_ack rs) → AckForm (handed_of v) (an_ack rs) w.byte w.rest → (4 ≤ length c) × (length c ≤ 6) × (frame_bytes (handed_of v) ≡ short_ack (first_of (kind_of (get_or c 0 0))) c)
      go w q (bare z) =
          let n : w.number ≡ short (length w.rest) = one_spelling (length w.rest) w.number w.spelt (octets_as w (an_ack rs) q).0 in
          let f = short_form w.byte (first_of (kind_of (get_or c 0 0))) z.high z.low z.rest z.other z.short_rest in
          let y : c ≡ w.byte ∷ (short (length (z.high ∷ z.low ∷ z.rest)) ++ (z.high ∷ z.low ∷ z.rest)) = w.whole ∙ rw (n, z.whole) in
          (rw y f.0, rw y f.1, rw (ack_first rs e, z.form) (f.2 ∙ ap (short_ack (first_of (kind_of (get_or c 0 0)))) (sym y)))
      go w q (filled z n) =
          let y = got_inj (sym (z.bounds (length (w.byte ∷ (w.number ++ w.rest)))) ∙ bounds_as w (an_ack rs) q) in
          absurd (omega (
            arith,
            n,
            ap (λ (p : ℕ × ℕ). p.0) y,
            ap (λ (p : ℕ × ℕ). p.1) y,
            ap length z.laid.whole,
            length-append z.laid.front (z.laid.props ++ z.laid.tail),
            length-append z.laid.props z.laid.tail,
            length-append w.number w.rest,
          ))
