-- When a write is refused, said of what is handed over and not of the tests. Assumes nothing.
use Rattle.std.specs.Prelude.{◌≡◌, Bool, true, false, List, [], ◌∷◌, ℕ, ◌%◌, ◌≤◌, ◌<◌, length}
use Rattle.std.proofs.Math.Option.{Option, none, some}
use Rattle.grammar.specs.Choice.{is_in}
use Rattle.grammar.specs.Text.{Utf8}
use Rattle.grammar.specs.Tables.{Form, publish_row, subscribe_row, ack_row, unsubscribe_row}
use Rattle.grammar.specs.Sentence.{not_zero, qos_fine, rule_fine}
use Rattle.grammar.specs.Octets.{Each}
use Rattle.reading.specs.Refusal.{Refusal, nr}
use Rattle.writing.specs.Lists.{sum}
use Rattle.writing.specs.Handed.{Run, Handed, publish, ack, subscribe, reply, unsubscribe, ping, Given, one, lent, pairs, several, Givens, publish_given, subscribe_given, ack_given, unsubscribe_given, strings, filters}
use Rattle.writing.specs.Size.{most, rest_is, size_is}
use Rattle.writing.specs.Order.{Field, raw, word, filter, code, fields_of, numbers_of}

-- ---- what belongs together (20)

-- the lent lengths of a list add up to its lent bytes
abbrev pub AddsUp : Run → Type 0
AddsUp r = sum r.lengths ≡ length r.bytes

-- what is handed over for a row: nothing for an absent value; lengths that add up, and an even number of them
abbrev pub Coherent : Given → Type 0
Coherent (one o) = Unit {0}
Coherent (lent l) = l.on ≡ false → l.bytes ≡ []
Coherent (pairs r) = AddsUp r × (length r.lengths % 2 ≡ 0)
Coherent (several ns) = Unit {0}

-- nothing at all
abbrev pub NothingGiven : Given → Type 0
NothingGiven (one o) = o ≡ none
NothingGiven (lent l) = (l.on ≡ false) × (l.bytes ≡ [])
NothingGiven (pairs r) = (r.bytes ≡ []) × (r.lengths ≡ [])
NothingGiven (several ns) = ns ≡ []

-- nothing for an absent block
abbrev pub InBlock : Bool → Givens → ℕ × Form → Type 0
InBlock block g r = Coherent (g r.0) × (block ≡ false → NothingGiven (g r.0))

-- 01, row 20, does not apply
abbrev pub Belongs : Handed → Type 0
Belongs (publish h) = Each (InBlock h.block (publish_given h)) publish_row.forms
Belongs (ack k h) = Each (InBlock h.block (ack_given h.text h.user)) ack_row.forms
Belongs (subscribe h) = Each (InBlock h.block (subscribe_given h)) subscribe_row.forms × (AddsUp h.filters × (length h.filters.lengths ≡ length h.options))
Belongs (reply k h) = Each (InBlock h.block (ack_given h.text h.user)) ack_row.forms
Belongs (unsubscribe h) = Each (InBlock h.block (unsubscribe_given h.user)) unsubscribe_row.forms × AddsUp h.topics
Belongs (ping k) = Unit {0}

-- ---- one field (18, 9, 14, 11, 15)

-- 01, row 18, does not apply: at most 65,535 bytes
abbrev pub Short : List ℕ → Type 0
Short s = length s ≤ 65535

-- a field that can be written: none of 01's rows 18, 9, 14, 11 and 15 applies
abbrev pub Writable : Field → Type 0
Writable (raw s) = Short s
Writable (word s) = Short s × Utf8 s
Writable (filter s o) = Short s × Utf8 s × (rule_fine o ≡ true) × (qos_fine o ≡ true)
Writable (code rs c) = is_in c rs ≡ true

-- a field that cannot, and the refusal that it is given: 01, writing order: "18, and 9 for text, .. with 14 then 11"
pub data Faulty : Field → Refusal → Type 0 where
  long_raw : {s : List ℕ} → 65535 < length s → Faulty (raw s) (nr 18 (length s ∷ []))
  long_word : {s : List ℕ} → 65535 < length s → Faulty (word s) (nr 18 (length s ∷ []))
  long_filter : {s : List ℕ} {o : ℕ} → 65535 < length s → Faulty (filter s o) (nr 18 (length s ∷ []))
  bad_word : {s : List ℕ} → Short s → (Utf8 s → ⊥) → Faulty (word s) (nr 9 [])
  bad_filter : {s : List ℕ} {o : ℕ} → Short s → (Utf8 s → ⊥) → Faulty (filter s o) (nr 9 [])
  bad_rule : {s : List ℕ} {o : ℕ} → Short s → Utf8 s → rule_fine o ≡ false → Faulty (filter s o) (nr 14 (3 ∷ []))
  bad_qos : {s : List ℕ} {o : ℕ} → Short s → Utf8 s → rule_fine o ≡ true → qos_fine o ≡ false → Faulty (filter s o) (nr 11 (3 ∷ []))
  unlisted : {rs : List ℕ} {c : ℕ} → is_in c rs ≡ false → Faulty (code rs c) (nr 15 (c ∷ []))

-- 01, writing order: "field by field as written": the first field that cannot be written is given k
pub data FirstFault (k : Refusal) : List Field → Type 0 where
  here : {f : Field} {fs : List Field} → Faulty f k → FirstFault k (f ∷ fs)
  later : {f : Field} {fs : List Field} → Writable f → FirstFault k fs → FirstFault k (f ∷ fs)

-- ---- the other rows

-- 01, grammar: a number that four bytes can spell
abbrev pub Small : ℕ → Type 0
Small n = n ≤ most

-- a subscription identifier that can be written: not too large (01, row 17), and not 0 (02, P9)
abbrev pub Fine : ℕ → Type 0
Fine n = Small n × (not_zero n ≡ true)

-- one that cannot, and its refusal
pub data Unfit : ℕ → Refusal → Type 0 where
  large : {n : ℕ} → most < n → Unfit n (nr 17 [])
  nought : Unfit 0 (nr 23 [])

-- 01, writing order: "17 for identifiers in order"; 02, P9: "a subscription identifier 0, in the place where 17 for identifiers stands": the first that cannot be written is given k
pub data FirstUnfit (k : Refusal) : List ℕ → Type 0 where
  here : {n : ℕ} {ns : List ℕ} → Unfit n k → FirstUnfit k (n ∷ ns)
  later : {n : ℕ} {ns : List ℕ} → Fine n → FirstUnfit k ns → FirstUnfit k (n ∷ ns)

-- 01, row 12: "Publish, QoS 1 or 2, identifier 0"
abbrev pub LacksIdent : Handed → Type 0
LacksIdent (publish h) = (h.qos ≡ 0 → ⊥) × (h.ident ≡ 0)
LacksIdent (ack k h) = ⊥
LacksIdent (subscribe h) = ⊥
LacksIdent (reply k h) = ⊥
LacksIdent (unsubscribe h) = ⊥
LacksIdent (ping k) = ⊥

-- 01, row 13: "no filters"; 02, P1: "no entry"
abbrev pub LacksEntries : Handed → Type 0
LacksEntries (publish h) = ⊥
LacksEntries (ack k h) = ⊥
LacksEntries (subscribe h) = filters h ≡ []
LacksEntries (reply k h) = h.reasons ≡ []
LacksEntries (unsubscribe h) = strings h.topics ≡ []
LacksEntries (ping k) = ⊥

-- 01, row 16, does not apply: at most the limit
abbrev pub Within : Option ℕ → ℕ → Type 0
Within none n = Unit {0}
Within (some m) n = n ≤ m

-- ---- the writing order

-- no row up to 17 for R applies
pub record Countable (h : Handed) : Type 0 where
  pub belongs : Belongs h
  pub fields : Each Writable (fields_of h)
  pub rest : Small (rest_is h)

-- 01, writing order: a row in its turn, if no row before it applies
pub data Refuses (limit : Option ℕ) (room : ℕ) (h : Handed) : Refusal → Type 0 where
  mismatch : (Belongs h → ⊥) → Refuses limit room h (nr 20 [])
  field : {k : Refusal} → Belongs h → FirstFault k (fields_of h) → Refuses limit room h k
  too_long : Belongs h → Each Writable (fields_of h) → most < rest_is h → Refuses limit room h (nr 17 [])
  too_large : {m : ℕ} → Countable h → limit ≡ some m → m < size_is h → Refuses limit room h (nr 16 (size_is h ∷ m ∷ []))
  no_name : Countable h → Within limit (size_is h) → LacksIdent h → Refuses limit room h (nr 12 [])
  number : {k : Refusal} → Countable h → Within limit (size_is h) → (LacksIdent h → ⊥) → FirstUnfit k (numbers_of h) → Refuses limit room h k
  none_asked : Countable h → Within limit (size_is h) → (LacksIdent h → ⊥) → Each Fine (numbers_of h) → LacksEntries h → Refuses limit room h (nr 13 [])
  no_room : Countable h → Within limit (size_is h) → (LacksIdent h → ⊥) → Each Fine (numbers_of h) → (LacksEntries h → ⊥) → room < size_is h → Refuses limit room h (nr 19 (size_is h ∷ []))

-- what is accepted: no row applies
pub record Accepts (limit : Option ℕ) (room : ℕ) (h : Handed) : Type 0 where
  pub countable : Countable h
  pub within : Within limit (size_is h)
  pub has_ident : LacksIdent h → ⊥
  pub numbers : Each Fine (numbers_of h)
  pub has_entries : LacksEntries h → ⊥
  pub fits : size_is h ≤ room

-- 01: "Asked alone, size refuses only with 20, then 17 for R"
pub data Unsized (h : Handed) : Refusal → Type 0 where
  mismatch : (Belongs h → ⊥) → Unsized h (nr 20 [])
  too_long : Belongs h → most < rest_is h → Unsized h (nr 17 [])

-- and is told otherwise: what is handed over belongs together, and R can be written
abbrev pub HasSize : Handed → Type 0
HasSize h = Belongs h × Small (rest_is h)
