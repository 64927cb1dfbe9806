-- The readers of numbers, strings and properties read their grammars. Assumes nothing.
use mathlib.Core.Path.{◌≡◌, refl, ap}
use mathlib.Core.Bool.{Bool, true, false, not, false≢true}
use mathlib.Core.Option.{Option, none, some}
use mathlib.Core.List.{List, [], ◌∷◌, ◌++◌}
use Prim.Native.Nat.{ℕ, zero, suc, ◌+◌, ◌-◌, ◌*◌}
use native.Mathlib.Omega.{arith}
use lib.ListN.{length, take, drop, length-append, take-append-drop}
use lib.Seq.{take_at, drop_at, length-take-le}
use lib.Dec.{leb, ltb, leb→le, ltb→lt}
use mathlib.Core.Logic.{◌↔◌}
use borrow.Author.Tests.{le-leb, lt-ltb, ltb-false, le-ltb}
use Rattle.grammar.specs.Choice.{is_in}
use Rattle.grammar.specs.Gram.{Only, OnlyBy, Many, Is, Solid}
use Rattle.grammar.specs.Number.{Byte, byte, big_from, Big, big, Groups, last, next, shortest}
use Rattle.grammar.specs.Text.{Range, in_range, rows, row_at, cons, Follow, Rest, Char, Utf8}
use Rattle.grammar.specs.Tables.{Form, u8, u16, u32, number, text, bytes, pair, Row, form_at}
use Rattle.grammar.specs.Record.{num, str}
use Rattle.grammar.specs.Sentence.{Any, Bytes, Text, Prop, duo_of, not_zero, Spelt, Property, property, met, fresh, Properties, Block}
use Rattle.reading.specs.Refusal.{Refusal, nr, cut, crossed}
use Rattle.reading.specs.Reader.{Fit, got, bad, many_fit, is_got}
use Rattle.reading.specs.Read.{big_of, byte_of, group_of, groups_of, num_of, follow_of, rest_of, char_of, is_text, any_bytes, as_bytes, string_fit, bytes_of, text_of, value_of, value_at, property_of, once_of, properties_fit, block_of}
use Rattle.reading.proofs.Lists.{T_of}
use Rattle.reading.proofs.Reading.{bad_got, from_got, from_bind, from_guard, Cut, Reads, Fills, reads_none, reads_map, reads_only, reads_by, Heads, reads_head, reads_then, reads_sized, fills_hand, fills_as, fills_iff, fills_chain, chain_only, fills_many, fills_is, reads_never, solid_map, solid_then, solid_sized, solid_only, solid_by}

-- ---- numbers

module _ (c : Refusal) where
  byte_whole : (n : ℕ) (b r : List ℕ) → Byte n b → byte_of c (b ++ r) ≡ got (n, r)
  unfolding byte_of
  byte_whole _ _ r byte = refl

  byte_split : (s : List ℕ) (z : ℕ × List ℕ) → byte_of c s ≡ got z → Cut Byte s z
  unfolding byte_of
  byte_split [] = λ z e. absurd (bad_got e)
  byte_split (x ∷ s) = from_got (Cut Byte (x ∷ s)) (x, s) (x ∷ [], refl, byte)

  pub reads_byte : Reads (byte_of c) Byte
  reads_byte = record { whole = byte_whole; split = byte_split }

pub byte_solid : Solid Byte
byte_solid _ _ byte e = let z : ◌≡◌ {A = ℕ} 0 1 = cc in omega arith

module _ (c : Refusal) (k : ℕ) where
  big_whole : (n : ℕ) (b r : List ℕ) → Big k n b → big_of c k (b ++ r) ≡ got (n, r)
  unfolding big_of
  big_whole _ b r (big e) =
      rw (le-leb k (length (b ++ r)) (rw length-append (omega arith)), take_at b r k e, drop_at b r k e)

  big_split : (s : List ℕ) (z : ℕ × List ℕ) → big_of c k s ≡ got z → Cut (Big k) s z
  unfolding big_of
  big_split s = from_guard (leb k (length s)) c (got (big_from 0 (take k s), drop k s)) λ h.
      from_got (Cut (Big k) s) (big_from 0 (take k s), drop k s)
      (take k s, rw (take-append-drop k s), big (length-take-le k s (leb→le k (length s) (T_of (leb k (length s)) h))))

  pub reads_big : Reads (big_of c k) (Big k)
  reads_big = record { whole = big_whole; split = big_split }

module _ (c : Refusal) where
  groups_whole : (k n : ℕ) (b r : List ℕ) → Groups k n b → groups_of c k (b ++ r) ≡ got (n, r)
  unfolding groups_of group_of
  groups_whole _ _ _ r (last {k = k} {x = x} h) = rw (lt-ltb x 128 h)
  groups_whole _ _ _ r (next {k = k} {x = x} {n = n} {b = b} h g) = rw (le-ltb x 128 h, groups_whole k n b r g)

  groups_step : (k x : ℕ) (s : List ℕ) → ((z : ℕ × List ℕ) → groups_of c k s ≡ got z → Cut (Groups k) s z)
      → (t : Bool) → ltb x 128 ≡ t → (z : ℕ × List ℕ) → group_of t x s (groups_of c k s) ≡ got z → Cut (Groups (suc k)) (x ∷ s) z
  unfolding group_of
  groups_step k x s ih true e = from_got (Cut (Groups (suc k)) (x ∷ s)) (x, s) (x ∷ [], refl, last (ltb→lt x 128 (T_of (ltb x 128) e)))
  groups_step k x s ih false e = from_bind (groups_of c k s) (λ y. got (x - 128 + 128 * y.0, y.1)) λ y e₁.
      let (b, e₂, g) = ih y e₁ in
      from_got (Cut (Groups (suc k)) (x ∷ s)) (x - 128 + 128 * y.0, y.1) (x ∷ b, ap (λ (l : List ℕ). x ∷ l) e₂, next (ltb-false x 128 e) g)

  groups_split : (k : ℕ) (s : List ℕ) (z : ℕ × List ℕ) → groups_of c k s ≡ got z → Cut (Groups k) s z
  unfolding groups_of
  groups_split zero s = λ z e. absurd (bad_got e)
  groups_split (suc k) [] = λ z e. absurd (bad_got e)
  groups_split (suc k) (x ∷ s) = groups_step k x s (groups_split k s) (ltb x 128) refl

  pub reads_groups : (k : ℕ) → Reads (groups_of c k) (Groups k)
  reads_groups k = record { whole = groups_whole k; split = groups_split k }

pub reads_num : (c : Refusal) (k : ℕ) → Reads (num_of c k) (OnlyBy shortest (Groups k))
unfolding num_of
reads_num c k = reads_by shortest (λ _ _. nr 2 []) (reads_groups c k)

pub groups_solid : (k : ℕ) → Solid (Groups k)
groups_solid _ _ _ (last h) e = let z : ◌≡◌ {A = ℕ} 0 1 = cc in omega arith
groups_solid _ _ _ (next h g) e = let z : ◌≡◌ {A = ℕ} 0 1 = cc in omega arith

pub num_solid : (k : ℕ) → Solid (OnlyBy shortest (Groups k))
num_solid k = solid_by shortest (groups_solid k)

pub big_solid : (k : ℕ) → Solid (Big (suc k))
big_solid k _ b (big l) e = omega (arith, ap length e)

-- ---- text

reads_follow : (rs : List Range) → Reads (follow_of rs) (Follow rs)
unfolding follow_of
reads_follow [] = reads_none []
reads_follow (r ∷ rs) = reads_map cons (reads_then (reads_only (in_range r) _ (reads_byte _)) (λ _. reads_follow rs))

reads_rest : (o : Option (List Range)) → Reads (rest_of o) (Rest o)
unfolding rest_of
reads_rest none = reads_never _
reads_rest (some rs) = reads_follow rs

pub reads_char : Reads char_of Char
unfolding char_of
reads_char = reads_map cons (reads_then (reads_byte _) (λ x. reads_rest (row_at rows x)))

fills_chars : Fills (many_fit char_of) (Many Char)
fills_chars = fills_many reads_char (solid_map cons (solid_then byte_solid))

pub text_fine : (b : List ℕ) → (is_text b ≡ true) ↔ Utf8 b
unfolding is_text
text_fine b = (go (many_fit char_of b) refl, λ t. rw (fills_chars.whole t.0 b t.1))
  where
    go : (m : Fit (List (List ℕ))) → many_fit char_of b ≡ m → is_got m ≡ true → Utf8 b
    go (got cs) e h = (cs, fills_chars.back b cs e)
    go (bad k) e h = absurd (false≢true h)

pub any_fine : (b : List ℕ) → (any_bytes b ≡ true) ↔ Any b
any_fine b = (λ _. tt, λ _. refl)

-- ---- strings and values, as bytes; `end` does not matter

pub fills_string : (t : List ℕ → Bool) (P : List ℕ → Type 0) (c : Refusal) → ((b : List ℕ) → (t b ≡ true) ↔ P b) → (end : ℕ) → Fills (string_fit as_bytes t c end) (Is P)
unfolding string_fit
fills_string t P c D end = fills_as (λ _. fills_is t P c D) end

pub reads_bytes : (end : ℕ) → Reads (bytes_of as_bytes end) Bytes
unfolding bytes_of
reads_bytes = reads_sized _ (reads_big _ 2) (fills_string any_bytes Any _ any_fine)

pub reads_text : (end : ℕ) → Reads (text_of as_bytes end) Text
unfolding text_of
reads_text = reads_sized _ (reads_big _ 2) (fills_string is_text Utf8 _ text_fine)

reads_value : (k : Form) (end : ℕ) → Reads (value_of as_bytes k end) (Spelt k)
unfolding value_of
reads_value u8 end = reads_map num (reads_byte cut)
reads_value u16 end = reads_map num (reads_big cut 2)
reads_value u32 end = reads_map num (reads_big cut 4)
reads_value number end = reads_map num (reads_only not_zero (λ _. nr 23 []) (reads_num cut 4))
reads_value text end = reads_map str (reads_text end)
reads_value bytes end = reads_map str (reads_bytes end)
reads_value pair end = reads_map duo_of (reads_then (reads_text end) (λ _. reads_text end))

-- ---- properties

module _ (row : Row) (end : ℕ) where
  property_whole : (a : Prop) (b r : List ℕ) → Property row a b → property_of as_bytes row end (b ++ r) ≡ got (a, r)
  unfolding property_of value_at
  property_whole _ _ r (property {f = k} {v = v} {b = b} e g) = rw (e, (reads_value k end).whole v b r g)

  value_split : (i : ℕ) (s : List ℕ) (k : Option Form) → form_at row i ≡ k → (z : Prop × List ℕ) → value_at as_bytes k i end s ≡ got z → Cut (Property row) (i ∷ s) z
  unfolding value_at
  value_split i s none e = λ z e'. absurd (bad_got e')
  value_split i s (some k) e = from_bind (value_of as_bytes k end s) (λ y. got ((i, y.0), y.1)) λ y e₁.
      let (b, e₂, g) = (reads_value k end).split s y e₁ in
      from_got (Cut (Property row) (i ∷ s)) ((i, y.0), y.1) (i ∷ b, ap (λ (l : List ℕ). i ∷ l) e₂, property e g)

  property_split : (s : List ℕ) (z : Prop × List ℕ) → property_of as_bytes row end s ≡ got z → Cut (Property row) s z
  unfolding property_of
  property_split [] = λ z e. absurd (bad_got e)
  property_split (i ∷ s) = value_split i s (form_at row i) refl

  pub reads_property : Reads (property_of as_bytes row end) (Property row)
  reads_property = record { whole = property_whole; split = property_split }

pub property_solid : (row : Row) → Solid (Property row)
property_solid row _ _ (property e g) h = let z : ◌≡◌ {A = ℕ} 0 1 = cc in omega arith

-- 02, P9: a property that is not met a second time
property_heads : (row : Row) (σ : List ℕ) → Heads (λ i. not (is_in i σ)) (fresh σ) (Property row)
property_heads row σ _ _ (property {i = i} {b = b} e g) = (i, b, refl, refl)

pub reads_once : (row : Row) (end : ℕ) (σ : List ℕ) → Reads (once_of as_bytes row end σ) (Only (fresh σ) (Property row))
unfolding once_of
reads_once row end σ = reads_head (λ i. not (is_in i σ)) (fresh σ) (λ i. nr 22 (i ∷ [])) (property_heads row σ) (reads_property row end)

pub once_solid : (row : Row) (σ : List ℕ) → Solid (Only (fresh σ) (Property row))
once_solid row σ = solid_only (fresh σ) (property_solid row)

pub fills_properties : (row : Row) (end : ℕ) → Fills (properties_fit as_bytes row end) (Properties row)
unfolding properties_fit
fills_properties row end = fills_iff (chain_only (met row) fresh []) (fills_chain (met row) (reads_once row end) (once_solid row) [])

module _ {A : Type 0} (row : Row) where
  pub reads_block : (f : List Prop → List ℕ → ℕ → A) (f' : List Prop → A) → ((ps : List Prop) (b : List ℕ) (e : ℕ) → f ps b e ≡ f' ps)
      → (end : ℕ) → Reads (block_of as_bytes row f end) (Block row f')
  unfolding block_of
  reads_block f f' m = reads_sized crossed (reads_num cut 4) (fills_hand f f' m (fills_properties row))

  pub block_solid : (f : List Prop → A) → Solid (Block row f)
  block_solid f = solid_sized (num_solid 4)
