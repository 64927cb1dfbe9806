-- Strings, values, properties, blocks and filters that pass their tests say what was handed over. Assumes nothing.
use mathlib.Core.Path.{◌≡◌, refl, sym, ◌∙◌}
use mathlib.Core.Bool.{Bool, true, false, ◌||◌, cond, false≢true}
use mathlib.Core.Option.{Option, none, some}
use mathlib.Core.List.{List, [], ◌∷◌, ◌++◌, map}
use lib.Dec.{eqb}
use Prim.Native.Nat.{ℕ, ◌/◌, ◌%◌, ◌≤◌, ◌<◌}
use native.Mathlib.Omega.{arith}
use lib.ListN.{length}
use Rattle.grammar.specs.Choice.{is_in}
use Rattle.grammar.specs.Gram.{done, more, only, Sized, Many, all_from, Is}
use Rattle.grammar.specs.Number.{byte, Big}
use Rattle.grammar.specs.Text.{Utf8}
use Rattle.grammar.specs.Tables.{Form, u8, u16, u32, number, text, bytes, pair, Forms, Row, is_list, form_at}
use Rattle.grammar.specs.Record.{num, str, duo, mk_filter}
use Rattle.grammar.specs.Sentence.{Any, Bytes, Text, Value, Prop, duo_of, not_zero, Spelt, Property, property, met, fresh, none_twice, Block, qos_fine, rule_fine, FilterOf, ReasonOf}
use Rattle.grammar.specs.Octets.{Each, nil, ◌&◌, Octets}
use Rattle.writing.specs.Lists.{flat}
use Rattle.writing.specs.Handed.{Lent, Run, one, lent, pairs, several, Givens, strings, duos, items, Entry, prop_of, tag, entries}
use Rattle.writing.specs.Spell.{string, numeral, value, entry, row_bytes, props_bytes, block, filter_bytes}
use Rattle.writing.specs.Size.{most}
use Rattle.writing.specs.Order.{word, code, string_field, filter_field, or_none}
use Rattle.writing.specs.Refuse.{Short, Writable, Fine}
use Rattle.writing.specs.Meant.{Below}
use Rattle.writing.proofs.Each.{each_append, each_imp, each_both, map_each, flat_each, each_piece, flat_append}
use Rattle.writing.proofs.Says.{Says, says_map, says_only, says_then, says_sized, says_is, says_many, says_byte, says_wide, says_short, says_counted}

-- ---- strings

-- a string of which P holds
says_string : (P : List ℕ → Type 0) {s : List ℕ} → P s → Octets s → Short s → Says (Sized (Big 2) (Is P)) s (string s)
unfolding string
says_string P {s} p o h = says_sized (says_wide 2 (length s) (omega arith)) (says_is P s p o)

pub says_bytes : {s : List ℕ} → Octets s → Short s → Says Bytes s (string s)
says_bytes o h = says_string Any tt o h

says_text : {s : List ℕ} → Octets s → Writable (word s) → Says Text s (string s)
says_text o (h, u) = says_string Utf8 u o h

-- ---- values

-- a value that can be written in the form
pub data Suits : Form → Value → Type 0 where
  an_u8 : {n : ℕ} → n < 256 → Suits u8 (num n)
  an_u16 : {n : ℕ} → n < 65536 → Suits u16 (num n)
  an_u32 : {n : ℕ} → n < 4294967296 → Suits u32 (num n)
  a_number : {n : ℕ} → Fine n → Suits number (num n)
  a_text : {s : List ℕ} → Octets s → Writable (word s) → Suits text (str s)
  a_bytes : {s : List ℕ} → Octets s → Short s → Suits bytes (str s)
  a_pair : {a b : List ℕ} → Octets a → Writable (word a) → Octets b → Writable (word b) → Suits pair (duo a b)

says_value : {f : Form} {v : Value} → Suits f v → Says (Spelt f) v (value f v)
unfolding value numeral
says_value (an_u8 {n} h) = says_map num (says_byte n h)
says_value (an_u16 {n} h) = says_map num (says_wide 2 n (omega arith))
says_value (an_u32 {n} h) = says_map num (says_wide 4 n (omega arith))
says_value (a_number {n} (h, z)) = says_map num (says_only not_zero z (says_short n h))
says_value (a_text o h) = says_map str (says_text o h)
says_value (a_bytes o h) = says_map str (says_bytes o h)
says_value (a_pair o h o' h') = says_map duo_of (says_then (says_text o h) (says_text o' h'))

-- ---- blocks

-- no identifier of the rows is among those before, or stands in two of them
abbrev pub Apart : List ℕ → Forms → Type 0
Apart σ [] = Unit {0}
Apart σ (r ∷ rs) = (is_in r.0 σ ≡ false) × Apart (r.0 ∷ σ) rs

module _ (row : Row) where
  -- a row of the place, with a value that its form can write
  record Right (e : Entry) : Type 0 where
    pub known : form_at row e.0.0 ≡ some e.0.1
    pub small : e.0.0 < 256
    pub suits : Suits e.0.1 e.1

  says_entry : (e : Entry) → Right e → Says (Property row) (prop_of e) (entry e)
  says_entry e r =
      let s = says_value r.suits in
      record { spelled = property r.known s.spelled; octets = r.small & s.octets }

  -- what is handed over for a row
  pub record RightRow (g : Givens) (r : ℕ × Form) : Type 0 where
    pub known : form_at row r.0 ≡ some r.1
    pub small : r.0 < 256
    pub suits : Each (Suits r.1) (items (g r.0))
    pub once : is_list row r.0 ≡ false → length (items (g r.0)) ≤ 1

  entries_right : (g : Givens) → Each (RightRow g) row.forms → Each Right (entries row g)
  unfolding entries
  entries_right g rows = flat_each (λ r. tag r (items (g r.0))) (each_imp right_row rows)
    where
      right_tag : (r : ℕ × Form) → form_at row r.0 ≡ some r.1 → r.0 < 256 → {vs : List Value} → Each (Suits r.1) vs → Each Right (tag r vs)
      right_tag r k h nil = nil
      right_tag r k h (s & ss) = record { known = k; small = h; suits = s } & right_tag r k h ss

      right_row : (r : ℕ × Form) → RightRow g r → Each Right (tag r (items (g r.0)))
      right_row r w = right_tag r w.known w.small w.suits

  -- the bytes of a block are its properties, one after the other
  rows_entries : (g : Givens) (rs : Forms) → flat (λ r. row_bytes r (g r.0)) rs ≡ flat entry (flat (λ r. tag r (items (g r.0))) rs)
  rows_entries g [] = refl
  rows_entries g (r ∷ rs) = rw (flat_append entry (tag r (items (g r.0))) (flat (λ r. tag r (items (g r.0))) rs), rows_entries g rs)

  -- ---- 02, P9: a row that is no list has one value at most, so no property is written twice

  -- what was met is among the rows before
  abbrev Among : List ℕ → List ℕ → Type 0
  Among σ ρ = (i : ℕ) → is_in i ρ ≡ false → is_in i σ ≡ false

  abbrev fresh_from : List ℕ → List Entry → Bool
  fresh_from σ es = all_from (met row) fresh σ (map prop_of es)

  tag_list : (r : ℕ × Form) (σ : List ℕ) → is_list row r.0 ≡ true → is_in r.0 σ ≡ false → (vs : List Value) (es : List Entry) → fresh_from σ (tag r vs ++ es) ≡ fresh_from σ es
  tag_list r σ h n [] es = refl
  tag_list r σ h n (v ∷ vs) es = rw (h, n) (tag_list r σ h n vs es)

  among_more : (σ ρ : List ℕ) (j : ℕ) → Among σ ρ → Among σ (j ∷ ρ)
  among_more σ ρ j a i e = a i (go (eqb i j) e)
    where
      go : (t : Bool) → (t || is_in i ρ) ≡ false → is_in i ρ ≡ false
      go true e = absurd (false≢true (sym e))
      go false e = e

  among_both : (σ ρ : List ℕ) (j : ℕ) → Among σ ρ → Among (j ∷ σ) (j ∷ ρ)
  among_both σ ρ j a i e = go (eqb i j) e
    where
      go : (t : Bool) → (t || is_in i ρ) ≡ false → (t || is_in i σ) ≡ false
      go true e = absurd (false≢true (sym e))
      go false e = a i e

  tag_one : (r : ℕ × Form) (σ ρ : List ℕ) → is_list row r.0 ≡ false → is_in r.0 σ ≡ false → Among σ ρ → (vs : List Value) → length vs ≤ 1 → (es : List Entry)
      → ((σ' : List ℕ) → Among σ' (r.0 ∷ ρ) → fresh_from σ' es ≡ true) → fresh_from σ (tag r vs ++ es) ≡ true
  tag_one r σ ρ h n a [] l es k = k σ (among_more σ ρ r.0 a)
  tag_one r σ ρ h n a (v ∷ []) l es k = rw (h, n) (k (r.0 ∷ σ) (among_both σ ρ r.0 a))
  tag_one r σ ρ h n a (v ∷ w ∷ vs) l es k = absurd (omega arith)

  rows_fresh : (g : Givens) (σ ρ : List ℕ) → Among σ ρ → {rs : Forms} → Apart ρ rs → Each (RightRow g) rs → fresh_from σ (flat (λ r. tag r (items (g r.0))) rs) ≡ true
  rows_fresh g σ ρ a {rs = []} d nil = refl
  rows_fresh g σ ρ a {rs = r ∷ rs} (n, d) (◌&◌ w ws) = go (is_list row r.0) refl (λ σ' a'. rows_fresh g σ' (r.0 ∷ ρ) a' d ws)
    where
      go : (t : Bool) → is_list row r.0 ≡ t → ((σ' : List ℕ) → Among σ' (r.0 ∷ ρ) → fresh_from σ' (flat (λ r. tag r (items (g r.0))) rs) ≡ true)
          → fresh_from σ (flat (λ r. tag r (items (g r.0))) (r ∷ rs)) ≡ true
      go true h k = tag_list r σ h (a r.0 n) (items (g r.0)) _ ∙ k σ (among_more σ ρ r.0 a)
      go false h k = tag_one r σ ρ h (a r.0 n) a (items (g r.0)) (w.once h) _ k

  entries_once : (g : Givens) → Apart [] row.forms → Each (RightRow g) row.forms → none_twice row (map prop_of (entries row g)) ≡ true
  unfolding entries
  entries_once g d ws = rows_fresh g [] [] (λ i e. e) d ws

  pub says_block : {A : Type 0} (f : List Prop → A) (g : Givens) → Apart [] row.forms → Each (RightRow g) row.forms → length (props_bytes row g) ≤ most → Says (Block row f) (f (map prop_of (entries row g))) (block row g)
  unfolding block props_bytes entries
  says_block f g d rows h = says_counted h (rw (rows_entries g row.forms) (says_map f (says_only (none_twice row) (entries_once g d rows) (says_many prop_of entry (entries row g) (each_imp says_entry (entries_right g rows))))))

-- ---- what is handed over can be written

pub one_once : (o : Option ℕ) → length (items (one o)) ≤ 1
one_once none = omega arith
one_once (some n) = omega arith

pub lent_once : (l : Lent) → length (items (lent l)) ≤ 1
lent_once l = go l.on
  where
    go : (t : Bool) → length (cond t (str l.bytes ∷ []) []) ≤ 1
    go true = omega arith
    go false = omega arith

pub one_suits : {f : Form} (P : ℕ → Type 0) → ((n : ℕ) → P n → Suits f (num n)) → (o : Option ℕ) → Each P (or_none o) → Each (Suits f) (items (one o))
one_suits P s none p = nil
one_suits P s (some n) (p & nil) = s n p & nil

pub below_each : (m : ℕ) (o : Option ℕ) → Below m o → Each (λ (n : ℕ). n < m) (or_none o)
below_each m none b = nil
below_each m (some n) b = b & nil

pub lent_suits : {f : Form} (l : Lent) → (Writable (string_field f l.bytes) → Suits f (str l.bytes)) → Each Writable (cond l.on (string_field f l.bytes ∷ []) []) → Each (Suits f) (items (lent l))
lent_suits {f} l s = go l.on
  where
    go : (t : Bool) → Each Writable (cond t (string_field f l.bytes ∷ []) []) → Each (Suits f) (cond t (str l.bytes ∷ []) [])
    go true (p & nil) = s p & nil
    go false p = nil

duos_suit : (l : List (List ℕ)) → Each Octets l → Each Writable (map word l) → Each (Suits pair) (duos l)
duos_suit [] o p = nil
duos_suit (a ∷ []) o p = nil
duos_suit (a ∷ b ∷ l) (o & (o' & os)) (p & (p' & ps)) = a_pair o p o' p' & duos_suit l os ps

pub pairs_suit : (r : Run) → Octets r.bytes → Each Writable (map word (strings r)) → Each (Suits pair) (items (pairs r))
pairs_suit r o p = duos_suit (strings r) (each_piece r.lengths o) p

pub several_suit : {ns : List ℕ} → Each Fine ns → Each (Suits number) (items (several ns))
several_suit nil = nil
several_suit (p & ps) = a_number p & several_suit ps

-- ---- filters

-- the two high bits of an options byte say nothing
module _ (o : ℕ) where
  pub low_qos : o % 64 % 4 ≡ o % 4
  low_qos = omega arith

  pub low_rule : o % 64 / 16 % 4 ≡ o / 16 % 4
  low_rule = omega arith

  pub low_filter : (s : List ℕ) → mk_filter (s, o % 64) ≡ mk_filter (s, o)
  low_filter s =
      let d : o % 64 / 4 % 2 ≡ o / 4 % 2 = omega arith in
      let e : o % 64 / 8 % 2 ≡ o / 8 % 2 = omega arith in
      rw (low_qos, d, e, low_rule)

says_filter : (f : List ℕ × ℕ) → Octets f.0 × Writable (filter_field f) → Says FilterOf (mk_filter f) (filter_bytes f)
says_filter (s, o) (b, (h, u, p, q)) =
    let p' : rule_fine (o % 64) ≡ true = rw (low_rule o) p in
    let q' : qos_fine (o % 64) ≡ true = rw (low_qos o) q in
    rw (← low_filter o s) (says_map mk_filter (says_then (says_text b (h, u)) (says_only qos_fine q' (says_only rule_fine p' (says_byte (o % 64) (omega arith))))))

pub says_filters : (fs : List (List ℕ × ℕ)) → Each (λ f. Octets f.0) fs → Each Writable (map filter_field fs) → Says (Many FilterOf) (map mk_filter fs) (flat filter_bytes fs)
says_filters fs o p = says_many mk_filter filter_bytes fs (each_imp says_filter (each_both o (map_each filter_field fs p)))

-- ---- reasons and topics

pub says_reasons : (rs cs : List ℕ) → Octets cs → Each Writable (map (code rs) cs) → Says (Many (ReasonOf rs)) cs cs
says_reasons rs [] o p = record { spelled = done; octets = nil }
says_reasons rs (c ∷ cs) (o & os) (p & ps) = let r = says_reasons rs cs os ps in record { spelled = more (only p byte) r.spelled; octets = o & r.octets }

pub says_topics : (ss : List (List ℕ)) → Each Octets ss → Each Writable (map word ss) → Says (Many Text) ss (flat string ss)
says_topics [] o p = record { spelled = done; octets = nil }
says_topics (s ∷ ss) (o & os) (p & ps) =
    let t = says_text o p in
    let r = says_topics ss os ps in
    record { spelled = more t.spelled r.spelled; octets = each_append t.octets r.octets }
