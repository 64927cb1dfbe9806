-- What holds of every value that bytes say, and of how many bytes say it: numbers, strings, properties, blocks. Assumes nothing.
use mathlib.Core.Path.{◌≡◌, refl, ap, ◌∙◌}
use mathlib.Core.Option.{Option, none, some}
use mathlib.Core.List.{List, [], ◌∷◌, ◌++◌}
use Prim.Native.Nat.{ℕ, suc, ◌+◌, ◌*◌, ◌^◌, ◌≤◌, ◌<◌}
use native.Mathlib.Omega.{arith}
use native.Mathlib.Nat.{pow-suc, mul_assoc, mul_comm, mul-le-mul_right}
use lib.ListN.{length, length-append}
use Rattle.grammar.specs.Gram.{Gram, mapped, only, both, Sized, sized, done, more, Many, Is, is}
use Rattle.grammar.specs.Number.{Byte, byte, big_from, Big, big, Spells}
use Rattle.grammar.specs.Text.{Utf8}
use Rattle.grammar.specs.Choice.{lookup}
use Rattle.grammar.specs.Tables.{Form, u8, u16, u32, number, text, bytes, pair, Forms, Row, form_at}
use Rattle.grammar.specs.Sentence.{Any, Value, Prop, Spelt, Property, property, Block}
use Rattle.grammar.proofs.Numbers.{spells_small}
use Rattle.grammar.specs.Octets.{Each, nil, ◌&◌, Octet, Octets}
use Rattle.writing.specs.Lists.{total}
use Rattle.writing.specs.Spell.{short, string, numeral, value}
use Rattle.writing.specs.Size.{len_len, with_length}
use Rattle.writing.specs.Refuse.{Short, Small}
use Rattle.writing.proofs.Each.{each_head, each_tail, each_left, each_right}
use Rattle.writing.proofs.Says.{length_wide, says_short}
use Rattle.writing.proofs.Values.{Suits, an_u8, an_u16, an_u32, a_number, a_text, a_bytes, a_pair}
use Rattle.writing.proofs.Sizes.{length_short, length_string}
use Rattle.writing.proofs.Shortest.{short_fits, short_shortest}

-- Q holds of every value and length of bytes of G
abbrev pub Has : {A : Type 0} → Gram A → (A → ℕ → Type 0) → Type 0
Has {A} G Q = (a : A) (b : List ℕ) → G a b → Octets b → Q a (length b)

-- bytes one after the other
pub has_many : {A : Type 0} {G : Gram A} (P : A → Type 0) (w : A → ℕ) → Has G (λ a n. P a × (w a ≤ n)) → Has (Many G) (λ l n. Each P l × (total w l ≤ n))
has_many P w h _ _ done o = (nil, omega arith)
has_many P w h _ _ (more {a = a} {vs = vs} {b = b} {c = c} g m) o =
    let (p, l) = h a b g (each_left b c o) in
    let (ps, ls) = has_many P w h vs c m (each_right b c o) in
    (p & ps, rw (length-append b c) (omega arith))

-- ---- numbers

pub has_byte : Has Byte (λ x n. Octet x × (n ≡ 1))
has_byte _ _ byte o = (each_head o, refl)

big_bound : (n : ℕ) (b : List ℕ) → Octets b → big_from n b < suc n * 256 ^ length b
big_bound n [] o = omega arith
big_bound n (x ∷ b) o =
    let h : x < 256 = each_head o in
    let e = big_bound (n * 256 + x) b (each_tail o) in
    let p : 256 ^ suc (length b) ≡ 256 ^ length b * 256 = pow-suc 256 (length b) in
    let q : suc (n * 256 + x) * 256 ^ length b ≤ suc n * 256 * 256 ^ length b = mul-le-mul_right (256 ^ length b) (omega arith) in
    let m : suc n * 256 * 256 ^ length b ≡ suc n * (256 ^ length b * 256) = mul_assoc (suc n) 256 (256 ^ length b) ∙ ap (λ (k : ℕ). suc n * k) (mul_comm 256 (256 ^ length b)) in
    rw p (omega arith)

pub has_big : (k : ℕ) → Has (Big k) (λ v n. (v < 256 ^ k) × (n ≡ k))
has_big k _ b (big e) o = let h = big_bound 0 b o in (rw (← e) (omega arith), e)

pub has_number : Has Spells (λ v n. Small v × (len_len v ≤ n))
has_number v b g o = (spells_small v b g o, omega (arith, length_short v, short_shortest v b g o))

-- a smaller number has no more bytes in front
pub with_length_mono : (m n : ℕ) → m ≤ n → Small n → with_length m ≤ with_length n
with_length_mono m n h s = let w = says_short n s in omega (arith, short_fits m n (short n) w.spelled w.octets h, length_short m, length_short n)

-- ---- strings and values

pub has_string : (P : List ℕ → Type 0) → Has (Sized (Big 2) (Is P)) (λ s n. Short s × P s × Octets s × (n ≡ 2 + length s))
has_string P a _ (sized {b = b} {c = c} n g) o = go a b n g (each_left c b o) (each_right c b o)
  where
    go : (a b : List ℕ) → Big 2 (length b) c → Is P a b → Octets c → Octets b → Short a × P a × Octets a × (length (c ++ b) ≡ 2 + length a)
    go _ b n (is p) o q = let (h, e) = has_big 2 (length b) c n o in (omega arith, p, q, omega (arith, length-append c b))

-- a value that its form can write, in no more bytes
has_value : (f : Form) → Has (Spelt f) (λ v n. Suits f v × (length (value f v) ≤ n))
unfolding value numeral
has_value u8 _ b (mapped {a = n} g) o = let (h, e) = has_byte n b g o in (an_u8 h, omega arith)
has_value u16 _ b (mapped {a = n} g) o = let (h, e) = has_big 2 n b g o in (an_u16 {n = n} (omega arith), omega (arith, length_wide 2 n))
has_value u32 _ b (mapped {a = n} g) o = let (h, e) = has_big 4 n b g o in (an_u32 {n = n} (omega arith), omega (arith, length_wide 4 n))
has_value number _ b (mapped (only {a = n} z g)) o = let (h, l) = has_number n b g o in (a_number (h, z), omega (arith, length_short n))
has_value text _ b (mapped {a = s} g) o = let (h, u, q, e) = has_string Utf8 s b g o in (a_text q (h, u), omega (arith, length_string s))
has_value bytes _ b (mapped {a = s} g) o = let (h, u, q, e) = has_string Any s b g o in (a_bytes q h, omega (arith, length_string s))
has_value pair _ _ (mapped (both {a = s} {c = t} {b = b} {d = d} g g')) o =
    let (h, u, q, e) = has_string Utf8 s b g (each_left b d o) in
    let (h', u', q', e') = has_string Utf8 t d g' (each_right b d o) in
    (a_pair q (h, u) q' (h', u'), omega (arith, length-append b d, length-append (string s) (string t), length_string s, length_string t))

-- ---- properties

-- a property of the place, whose value can be written
abbrev pub SuitsIn : Row → Prop → Type 0
SuitsIn row p = (f : Form) × ((form_at row p.0 ≡ some f) × Suits f p.1)

-- its identifier byte and its value
abbrev pub size_by : Option Form → Value → ℕ
size_by none v = 0
size_by (some f) v = suc (length (value f v))

abbrev pub prop_size : Forms → Prop → ℕ
prop_size row p = size_by (lookup row p.0) p.1

pub has_property : (row : Row) → Has (Property row) (λ p n. SuitsIn row p × (prop_size row.forms p ≤ n))
has_property row _ _ (property {f = f} {v = v} {b = b} e g) o = let (s, l) = has_value f v b g (each_tail o) in ((f, (e, s)), rw e (omega arith))

-- the properties that a block comes from
pub record FromList {A : Type 0} (row : Row) (f : List Prop → A) (a : A) (n : ℕ) : Type 0 where
  pub list : List Prop
  pub is : a ≡ f list
  pub suits : Each (SuitsIn row) list
  pub light : with_length (total (prop_size row.forms) list) ≤ n

pub has_block : {A : Type 0} (row : Row) (f : List Prop → A) → Has (Block row f) (FromList row f)
has_block row f _ _ (sized {b = b} {c = c} n (mapped {a = ps} (only d m))) o =
    let (s, l) = has_number (length b) c n (each_left c b o) in
    let (ss, t) = has_many (SuitsIn row) (prop_size row.forms) (has_property row) ps b m (each_right c b o) in
    let k = with_length_mono (total (prop_size row.forms) ps) (length b) t s in
    record { list = ps; is = refl; suits = ss; light = omega (arith, length-append c b) }
