-- The bytes of a Publish, part by part, where there is room for them. Assumes nothing.
use mathlib.Core.Path.{◌≡◌, refl, sym, ap, ◌∙◌}
use mathlib.Core.Bool.{Bool, true, false, false≢true}
use mathlib.Core.Logic.{◌⊎◌, inl, inr}
use mathlib.Core.List.{List, [], ◌∷◌, ◌++◌, append_assoc, append-nil}
use Prim.Native.Nat.{ℕ, ◌+◌, ◌*◌, ◌/◌, ◌%◌, ◌≤◌, ◌<◌}
use native.Mathlib.Omega.{arith}
use native.Mathlib.Numerals.{add-one}
use lib.ListN.{length, take, drop, get_or, length-append, length-drop}
use lib.Seq.{sets, length-sets, length-take-le, take-length, drop-cons}
use Rattle.grammar.specs.Tables.{Form, u8, u16, u32, number, text, bytes, pair, publish_row}
use Rattle.writing.specs.Lists.{sum}
use Rattle.writing.specs.Handed.{Run, PublishHanded, publish, pairs, several, publish_given}
use Rattle.writing.specs.Spell.{wide, string, value, row_bytes, props_bytes}
use Rattle.writing.specs.Size.{no_ident}
use Rattle.writing.specs.Write.{first_byte, ident_bytes}
use Rattle.writing.proofs.Pins.{publish_props_lem}
use Rattle.writing.proofs.Says.{length_wide}
use Rattle.writing.proofs.Sizes.{length_string}
use Rattle.writing.proofs.Tests.{le_or}
use Rattle.writing.proofs.ForCode.{run_from, string_at, strings_more, strings_done}
use Rattle.records.specs.AsNumbers.{told_qos}
use Rattle.records.specs.declared.qos.QoS.{QoS}
use Rattle.write_runs.specs.Given.{given_one, given_lent, given_pairs}
use Rattle.publish_plan.specs.Handed.{handed}
use Rattle.publish_plan.specs.declared.head.PublishHead.{PublishHead}
use Rattle.publish_write.specs.Laid.{Laid, Room, all_rows}
use Rattle.write_bytes.proofs.Laws.{sets_append}
use Rattle.publish_write.proofs.Lay.{none_laid, store_laid, laid_then}

-- ---- strings

-- n bytes that are all there
pub part_length : (s : List ℕ) (from n : ℕ) → from + n ≤ length s → length (take n (drop from s)) ≡ n
part_length s from n h = length-take-le n (drop from s) (omega (arith, length-drop from s))

pub string_laid : (s : List ℕ) (from n : ℕ) → from + n ≤ length s → {l l₁ l₂ : List ℕ} {at m : ℕ}
    → l₁ ≡ sets l at ((n / 256 % 256) ∷ (n % 256) ∷ []) → l₂ ≡ sets l₁ (at + 2) (take n (drop from s)) → m ≡ at + 2 + n → Laid l at (string (take n (drop from s))) l₂ m
unfolding string wide
string_laid s from n h {l} {l₁} {l₂} {at} {m} e f g =
    let z = part_length s from n h in
    let p : Laid l₁ (at + 2) (take n (drop from s)) l₂ m = record { stores = f; place = g ∙ rw z } in
    rw z (laid_then (store_laid ((n / 256 % 256) ∷ (n % 256) ∷ []) l l₁ at e) p)

-- a string as a whole
pub whole_laid : (s : List ℕ) {l l₁ : List ℕ} {at m : ℕ} → Laid l at (string (take (length s) (drop 0 s))) l₁ m → Laid l at (string s) l₁ m
whole_laid s p = rw (take-length s) at p

-- ---- pairs

pub pair_laid : (k v : List ℕ) {l l₁ l₂ l₃ : List ℕ} {at m q : ℕ} → l₁ ≡ sets l at (38 ∷ []) → Laid l₁ (at + 1) (string k) l₂ m → Laid l₂ m (string v) l₃ q
    → Laid l at (38 ∷ (string k ++ string v)) l₃ q
pair_laid k v {l} {l₁} {at = at} e p q = laid_then (store_laid (38 ∷ []) l l₁ at e) (laid_then p q)

-- of the bytes `whole`, which are to stand from `at` on, `rest` is left, from `to` on
pub record Laying (before : List ℕ) (at : ℕ) (whole out : List ℕ) (to : ℕ) (rest : List ℕ) : Type 0 where
  pub same : length out ≡ length before
  pub stores : sets before at whole ≡ sets out to rest
  pub count : at + length whole ≡ to + length rest

pub none_laying : (before : List ℕ) (at : ℕ) (whole : List ℕ) → Laying before at whole before at whole
none_laying before at whole = record { same = refl; stores = refl; count = refl }

module _ {before whole out rest : List ℕ} {at to : ℕ} (p : Laying before at whole out to rest) where
  pub laying_more : (xs ys : List ℕ) → rest ≡ xs ++ ys → {out' : List ℕ} {next : ℕ} → Laid out to xs out' next → Laying before at whole out' next ys
  laying_more xs ys e {out'} q = record {
    same = ap length q.stores ∙ length-sets out to xs ∙ p.same;
    stores = p.stores ∙ rw (e, sets_append xs ys out to, q.stores, q.place);
    count = omega (arith, p.count, q.place, ap length e ∙ length-append xs ys);
  }

  pub laying_end : rest ≡ [] → Laid before at whole out to
  laying_end e = record { stores = sym (p.stores ∙ rw e); place = omega (arith, p.count, ap length e) }

module _ (r : Run) (i p : ℕ) where
  abbrev mid : ℕ
  mid = p + get_or r.lengths i 0

  pub pairs_next : i + 1 < length r.lengths
      → row_bytes (38, pair) (pairs (run_from r i p)) ≡ (38 ∷ (string (string_at r i p) ++ string (string_at r (i + 1) mid))) ++ row_bytes (38, pair) (pairs (run_from r (i + 2) (mid + get_or r.lengths (i + 1) 0)))
  unfolding value
  pairs_next h =
      let s : i + 1 + 1 ≡ i + 2 = omega arith in
      let l : i < length r.lengths = omega arith in
      rw (strings_more r i p l, strings_more r (i + 1) mid h, s)

  -- a length that is left over has no pair
  pub pairs_none : length r.lengths ≤ i + 1 → row_bytes (38, pair) (pairs (run_from r i p)) ≡ []
  pairs_none h = go (le_or (length r.lengths) i)
    where
      go : (length r.lengths ≤ i) ⊎ (i < length r.lengths) → row_bytes (38, pair) (pairs (run_from r i p)) ≡ []
      go (inl l) = rw (strings_done r i p l)
      go (inr l) = rw (strings_more r i p l, strings_done r (i + 1) mid h)

sum_one : (ns : List ℕ) (i : ℕ) → i < length ns → sum (drop i ns) ≡ get_or ns i 0 + sum (drop (i + 1) ns)
sum_one ns i h = ap sum (drop-cons ns i 0 h) ∙ rw (add-one i)

-- what the lengths from the i-th on add up to
pub sum_next : (ns : List ℕ) (i : ℕ) → i + 1 < length ns → sum (drop i ns) ≡ get_or ns i 0 + (get_or ns (i + 1) 0 + sum (drop (i + 2) ns))
sum_next ns i h =
    let e : i + 1 + 1 ≡ i + 2 = omega arith in
    sum_one ns i (omega arith) ∙ ap (λ (k : ℕ). get_or ns i 0 + k) (rw e at (sum_one ns (i + 1) h))

pub pair_length : (k v : List ℕ) → length (38 ∷ (string k ++ string v)) ≡ 5 + length k + length v
pair_length k v = omega (arith, length-append (string k) (string v), length_string k, length_string v)

-- ---- rows

module _ (id : ℕ) (f : Form) where
  pub lent_row : (s : List ℕ) → row_bytes (id, f) (given_lent true s) ≡ id ∷ string s
  unfolding value
  lent_row s = ap (λ (l : List ℕ). id ∷ l) (append-nil (string s))

  pub lent_on : {on : Bool} → on ≡ true → (s : List ℕ) {l l₁ l₂ : List ℕ} {at m : ℕ} → l₁ ≡ sets l at (id ∷ []) → Laid l₁ (at + 1) (string s) l₂ m → Laid l at (row_bytes (id, f) (given_lent on s)) l₂ m
  lent_on e s {l} {l₁} {at = at} g p = rw (e, lent_row s) (laid_then (store_laid (id ∷ []) l l₁ at g) p)

  pub lent_off : {on : Bool} → on ≡ false → (s l : List ℕ) (at : ℕ) → Laid l at (row_bytes (id, f) (given_lent on s)) l at
  lent_off e s l at = rw e (none_laid l at)

  -- room for the row
  pub lent_room : (on : Bool) (s l : List ℕ) (at : ℕ) → Room l at (row_bytes (id, f) (given_lent on s)) → on ≡ true → at + (3 + length s) ≤ length l
  lent_room true s l at h e = omega (arith, length_string s, ap length (lent_row s), h.fits)
  lent_room false s l at h e = absurd (false≢true e)

regroup : (a b c d e f g i : List ℕ) → a ++ (b ++ (c ++ (d ++ (e ++ (f ++ (g ++ (i ++ []))))))) ≡ (a ++ (b ++ c)) ++ ((d ++ e) ++ (f ++ (g ++ i)))
regroup a b c d e f g i = rw (append_assoc a (b ++ c) ((d ++ e) ++ (f ++ (g ++ i))), append_assoc b c ((d ++ e) ++ (f ++ (g ++ i))), append_assoc d e (f ++ (g ++ i)), append-nil i)

-- the rows are the properties
pub props_rows : (head : PublishHead) (t a b u l i c p : List ℕ) → all_rows head a b u l i c ≡ props_bytes publish_row (publish_given (handed head t a b u l i c p))
props_rows head t a b u l i c p =
    sym (publish_props_lem (handed head t a b u l i c p)
    ∙ regroup (row_bytes (1, u8) (given_one head.payload_format_indicator)) (row_bytes (2, u32) (given_one head.message_expiry_interval)) (row_bytes (35, u16) (given_one head.topic_alias))
    (row_bytes (8, text) (given_lent head.response_topic a)) (row_bytes (9, bytes) (given_lent head.correlation_data b))
    (row_bytes (38, pair) (given_pairs u l)) (row_bytes (11, number) (several i)) (row_bytes (3, text) (given_lent head.content_type c)))

-- ---- the front

pub first_all : (h : PublishHanded) {d q r : ℕ} → d ≡ h.dup → q ≡ h.qos → r ≡ h.retain → 48 + (8 * d + (2 * q + r)) ≡ first_byte (publish h)
unfolding first_byte
first_all h e f g = rw (e, f, g)

pub qos_most : (q : QoS) → told_qos q ≤ 2
qos_most QoS.AtMostOnce = omega arith
qos_most QoS.AtLeastOnce = omega arith
qos_most QoS.ExactlyOnce = omega arith

module _ (q i : ℕ) {t : Bool} (e : t ≡ no_ident q i) where
  pub ident_off : t ≡ true → (l : List ℕ) (at : ℕ) → Laid l at (ident_bytes q i) l at
  ident_off f l at = rw (sym e ∙ f) (none_laid l at)

  pub ident_on : t ≡ false → {l l₁ : List ℕ} {at : ℕ} → l₁ ≡ sets l at (wide 2 i) → Laid l at (ident_bytes q i) l₁ (at + 2)
  ident_on f s = rw (sym e ∙ f) (record { stores = s; place = rw (length_wide 2 i) })

  pub ident_room : t ≡ false → (l : List ℕ) (at : ℕ) → Room l at (ident_bytes q i) → at + 2 ≤ length l
  ident_room f l at h = omega (arith, length_wide 2 i, (rw (sym e ∙ f) at h).fits)
