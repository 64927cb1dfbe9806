-- A writer and a size of C refuse with a row of their kind's list, and no other. Assumes nothing.
use mathlib.Core.Path.{◌≡◌, refl, ap}
use mathlib.Core.Bool.{Bool, true, false, cond}
use mathlib.Core.Option.{Option}
use mathlib.Core.List.{List, [], ◌∷◌, ◌++◌, map}
use Prim.Native.Nat.{ℕ, ◌<◌}
use native.Mathlib.Omega.{arith}
use lib.ListN.{length}
use Rattle.grammar.specs.Choice.{is_in}
use Rattle.grammar.specs.Octets.{Each, nil, ◌&◌}
use Rattle.grammar.specs.Tables.{Form, u8, u16, u32, number, text, bytes, pair, Row, publish_row, subscribe_row, ack_row, unsubscribe_row, reasons_of}
use Rattle.reading.specs.Refusal.{Refusal}
use Rattle.reading.specs.Reader.{bad}
use Rattle.writing.specs.Lists.{flat}
use Rattle.writing.specs.Handed.{Handed, publish, ack, subscribe, reply, unsubscribe, ping, Given, one, lent, pairs, several, Givens, publish_given, subscribe_given, ack_given, unsubscribe_given, strings, filters}
use Rattle.writing.specs.Order.{Field, raw, word, filter, code, string_field, given_fields, props_fields, filter_field, fields_of, numbers_of}
use Rattle.writing.specs.Refuse.{Faulty, long_raw, long_word, long_filter, bad_word, bad_filter, bad_rule, bad_qos, unlisted, FirstFault, large, nought, FirstUnfit, LacksIdent, LacksEntries, Refuses, Unsized}
use Rattle.writing.specs.Refuse as r
use Rattle.writing.specs.Write.{sized_behind, answered_behind}
use Rattle.records.specs.AsNumbers.{row_of}
use Rattle.c_heads.specs.By.{By, handed_by}
use Rattle.c_heads.specs.Refuse.{InOrder, RefusesBy, UnsizedBy}
use Rattle.c_heads.specs.Refuse as c
use Rattle.c_heads.proofs.Order.{write_refused_when, size_refused_when}
use Rattle.promises.specs.CRows.{write_rows, size_rows, Quality}

-- ---- fields

-- a field that is faulty by one of these rows alone
abbrev Of : List ℕ → Field → Type 0
Of rs f = (k : Refusal) → Faulty f k → is_in (row_of k) rs ≡ true

each_append : {A : Type 0} {P : A → Type 0} (l m : List A) → Each P l → Each P m → Each P (l ++ m)
each_append [] m p q = q
each_append (a ∷ l) m (p & ps) q = p & each_append l m ps q

each_map : {A B : Type 0} {P : B → Type 0} (f : A → B) → ((a : A) → P (f a)) → (l : List A) → Each P (map f l)
each_map f p [] = nil
each_map f p (a ∷ l) = p a & each_map f p l

each_flat : {A B : Type 0} {P : B → Type 0} (f : A → List B) → ((a : A) → Each P (f a)) → (l : List A) → Each P (flat f l)
each_flat f p [] = nil
each_flat f p (a ∷ l) = each_append (f a) (flat f l) (p a) (each_flat f p l)

first_of_lem : (rs : List ℕ) {k : Refusal} (fs : List Field) → Each (Of rs) fs → FirstFault k fs → is_in (row_of k) rs ≡ true
first_of_lem rs [] n x = elim x [ ]
first_of_lem rs (f ∷ fs) (p & ps) (r.FirstFault.here q) = p _ q
first_of_lem rs (f ∷ fs) (p & ps) (r.FirstFault.later w q) = first_of_lem rs fs ps q

module _ (rs : List ℕ) (a : is_in 18 rs ≡ true) (b : is_in 9 rs ≡ true) where
  raw_of : (s : List ℕ) → Of rs (raw s)
  raw_of s _ (long_raw l) = a

  word_of_lem : (s : List ℕ) → Of rs (word s)
  word_of_lem s _ (long_word l) = a
  word_of_lem s _ (bad_word l u) = b

  filter_of_lem : is_in 14 rs ≡ true → is_in 11 rs ≡ true → (s : List ℕ) (o : ℕ) → Of rs (filter s o)
  filter_of_lem d e s o _ (long_filter l) = a
  filter_of_lem d e s o _ (bad_filter l u) = b
  filter_of_lem d e s o _ (bad_rule l u p) = d
  filter_of_lem d e s o _ (bad_qos l u p q) = e

  string_of_lem : (f : Form) (s : List ℕ) → Of rs (string_field f s)
  string_of_lem u8 s = raw_of s
  string_of_lem u16 s = raw_of s
  string_of_lem u32 s = raw_of s
  string_of_lem number s = raw_of s
  string_of_lem text s = word_of_lem s
  string_of_lem bytes s = raw_of s
  string_of_lem pair s = raw_of s

  given_of : (f : Form) (g : Given) → Each (Of rs) (given_fields f g)
  given_of f (one o) = nil
  given_of f (lent l) = go l.on
    where
      go : (t : Bool) → Each (Of rs) (cond t (string_field f l.bytes ∷ []) [])
      go true = string_of_lem f l.bytes & nil
      go false = nil
  given_of f (pairs q) = each_map word word_of_lem (strings q)
  given_of f (several ns) = nil

  props_of_lem : (row : Row) (g : Givens) → Each (Of rs) (props_fields row g)
  unfolding props_fields
  props_of_lem row g = each_flat (λ x. given_fields x.1 (g x.0)) (λ x. given_of x.1 (g x.0)) row.forms

code_of : (rs : List ℕ) → is_in 15 rs ≡ true → (ls : List ℕ) (x : ℕ) → Of rs (code ls x)
code_of rs e ls x _ (unlisted p) = e

fields_of_lem : (h : Handed) → Each (Of (write_rows h)) (fields_of h)
unfolding fields_of
fields_of_lem (publish h) = raw_of (write_rows (publish h)) refl refl h.topic & props_of_lem (write_rows (publish h)) refl refl publish_row (publish_given h)
fields_of_lem (ack k h) = code_of (write_rows (ack k h)) refl (reasons_of k) h.reason & props_of_lem (write_rows (ack k h)) refl refl ack_row (ack_given h.text h.user)
fields_of_lem (subscribe h) = each_append _ _ (props_of_lem (write_rows (subscribe h)) refl refl subscribe_row (subscribe_given h)) (each_map filter_field (λ f. filter_of_lem (write_rows (subscribe h)) refl refl refl refl f.0 f.1) (filters h))
fields_of_lem (reply k h) = each_append _ _ (props_of_lem (write_rows (reply k h)) refl refl ack_row (ack_given h.text h.user)) (each_map (code (reasons_of k)) (code_of (write_rows (reply k h)) refl (reasons_of k)) h.reasons)
fields_of_lem (unsubscribe h) = each_append _ _ (props_of_lem (write_rows (unsubscribe h)) refl refl unsubscribe_row (unsubscribe_given h.user)) (each_map word (word_of_lem (write_rows (unsubscribe h)) refl refl) (strings h.topics))
fields_of_lem (ping k) = nil

-- ---- numbers

unfit_of : (rs : List ℕ) → is_in 17 rs ≡ true → is_in 23 rs ≡ true → (ns : List ℕ) {k : Refusal} → FirstUnfit k ns → is_in (row_of k) rs ≡ true
unfit_of rs a b [] x = elim x [ ]
unfit_of rs a b (n ∷ ns) (r.FirstUnfit.here (large l)) = a
unfit_of rs a b (n ∷ ns) (r.FirstUnfit.here nought) = b
unfit_of rs a b (n ∷ ns) (r.FirstUnfit.later f u) = unfit_of rs a b ns u

unfit_none : (ns : List ℕ) {k : Refusal} → ns ≡ [] → FirstUnfit k ns → ⊥
unfit_none [] e u = elim u [ ]
unfit_none (n ∷ ns) e u = omega (arith, ap length e)

unfit_row : (h : Handed) {k : Refusal} → FirstUnfit k (numbers_of h) → is_in (row_of k) (write_rows h) ≡ true
unfit_row (publish h) u = unfit_of (write_rows (publish h)) refl refl h.subscriptions u
unfit_row (ack k h) u = absurd (unfit_none [] refl u)
unfit_row (subscribe h) u = unfit_of (write_rows (subscribe h)) refl refl (numbers_of (subscribe h)) u
unfit_row (reply k h) u = absurd (unfit_none [] refl u)
unfit_row (unsubscribe h) u = absurd (unfit_none [] refl u)
unfit_row (ping k) u = absurd (unfit_none [] refl u)

-- ---- rows that every kind has, and those of some

every : (h : Handed) → (is_in 20 (write_rows h) ≡ true) × (is_in 17 (write_rows h) ≡ true) × (is_in 16 (write_rows h) ≡ true) × (is_in 19 (write_rows h) ≡ true)
every (publish h) = (refl, refl, refl, refl)
every (ack k h) = (refl, refl, refl, refl)
every (subscribe h) = (refl, refl, refl, refl)
every (reply k h) = (refl, refl, refl, refl)
every (unsubscribe h) = (refl, refl, refl, refl)
every (ping k) = (refl, refl, refl, refl)

unnamed_row : (h : Handed) → LacksIdent h → is_in 12 (write_rows h) ≡ true
unnamed_row (publish h) u = refl
unnamed_row (ack k h) u = absurd u
unnamed_row (subscribe h) u = absurd u
unnamed_row (reply k h) u = absurd u
unnamed_row (unsubscribe h) u = absurd u
unnamed_row (ping k) u = absurd u

unasked_row : (h : Handed) → LacksEntries h → is_in 13 (write_rows h) ≡ true
unasked_row (publish h) u = absurd u
unasked_row (ack k h) u = absurd u
unasked_row (subscribe h) u = refl
unasked_row (reply k h) u = refl
unasked_row (unsubscribe h) u = refl
unasked_row (ping k) u = absurd u

own_row : (limit : Option ℕ) (room : ℕ) (h : Handed) (k : Refusal) → Refuses limit room h k → is_in (row_of k) (write_rows h) ≡ true
own_row limit room h _ (r.Refuses.mismatch w) = (every h).0
own_row limit room h _ (r.Refuses.field w f) = first_of_lem (write_rows h) (fields_of h) (fields_of_lem h) f
own_row limit room h _ (r.Refuses.too_long w f l) = (every h).1
own_row limit room h _ (r.Refuses.too_large c e l) = (every h).2
own_row limit room h _ (r.Refuses.no_name c m u) = unnamed_row h u
own_row limit room h _ (r.Refuses.number c m i u) = unfit_row h u
own_row limit room h _ (r.Refuses.none_asked c m i n u) = unasked_row h u
own_row limit room h _ (r.Refuses.no_room c m i n u o) = (every h).3

-- ---- the writers and sizes of C

quality_row : (h : Handed) (q : ℕ) → Quality h q → 2 < q → (is_in 11 (write_rows h) ≡ true) × (is_in 11 (size_rows h) ≡ true)
quality_row (publish h) q w l = (refl, refl)
quality_row (ack k h) q w l = absurd (omega arith)
quality_row (subscribe h) q w l = absurd (omega arith)
quality_row (reply k h) q w l = absurd (omega arith)
quality_row (unsubscribe h) q w l = absurd (omega arith)
quality_row (ping k) q w l = absurd (omega arith)

size_every : (h : Handed) → (is_in 20 (size_rows h) ≡ true) × (is_in 17 (size_rows h) ≡ true)
size_every (publish h) = (refl, refl)
size_every (ack k h) = (refl, refl)
size_every (subscribe h) = (refl, refl)
size_every (reply k h) = (refl, refl)
size_every (unsubscribe h) = (refl, refl)
size_every (ping k) = (refl, refl)

write_row : (limit : Option ℕ) (room : ℕ) (b : By) (k : Refusal) → Quality b.handed b.quality → RefusesBy limit room b k → is_in (row_of k) (write_rows b.handed) ≡ true
write_row limit room b _ q (c.InOrder.mismatch w) = (every b.handed).0
write_row limit room b _ q (c.InOrder.quality w l) = (quality_row b.handed b.quality q l).0
write_row limit room b k q (c.InOrder.own w l o) = own_row limit room b.handed k o

size_own : (h : Handed) (k : Refusal) → Unsized h k → is_in (row_of k) (size_rows h) ≡ true
size_own h _ (r.Unsized.mismatch w) = (size_every h).0
size_own h _ (r.Unsized.too_long w l) = (size_every h).1

size_row : (b : By) (k : Refusal) → Quality b.handed b.quality → UnsizedBy b k → is_in (row_of k) (size_rows b.handed) ≡ true
size_row b _ q (c.InOrder.mismatch w) = (size_every b.handed).0
size_row b _ q (c.InOrder.quality w l) = (quality_row b.handed b.quality q l).1
size_row b k q (c.InOrder.own w l o) = size_own b.handed k o

-- a write of C is refused with a row of its kind's list, and no other
pub c_write_rows : (limit : Option ℕ) (before : List ℕ) (b : By) (k : Refusal) → Quality b.handed b.quality → answered_behind (handed_by b) limit before ≡ bad k → is_in (row_of k) (write_rows b.handed) ≡ true
c_write_rows limit before b k q e = write_row limit (length before) b k q ((write_refused_when limit before b k).0 e)

-- and so a size
pub c_size_rows : (b : By) (k : Refusal) → Quality b.handed b.quality → sized_behind (handed_by b) ≡ bad k → is_in (row_of k) (size_rows b.handed) ≡ true
c_size_rows b k q e = size_row b k q ((size_refused_when b k).0 e)
