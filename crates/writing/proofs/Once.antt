-- After P8 and P9 the bytes of a value are the ones that are written for it: what a tidy form (02, P14) copies as it stands. Assumes nothing.
use mathlib.Core.Path.{◌≡◌, refl, ap}
use mathlib.Core.Option.{some}
use mathlib.Core.List.{List, [], ◌∷◌, ◌++◌}
use Prim.Native.Nat.{ℕ, ◌+◌, ◌*◌, ◌/◌, ◌%◌}
use native.Mathlib.Omega.{arith}
use lib.ListN.{length}
use Rattle.grammar.specs.Gram.{mapped, only, both, Sized, sized, Is, is}
use Rattle.grammar.specs.Number.{byte, big_from, Big, big}
use Rattle.grammar.specs.Octets.{nil, ◌&◌, Octets}
use Rattle.grammar.specs.Tables.{Form, u8, u16, u32, number, text, bytes, pair, Row, form_at}
use Rattle.grammar.specs.Sentence.{Value, Prop, Spelt, Property, property}
use Rattle.writing.specs.Spell.{wide, string, numeral, value}
use Rattle.writing.proofs.Each.{each_left, each_right, each_tail}
use Rattle.writing.proofs.Shortest.{one_spelling}

two_bytes : (b : List ℕ) → length b ≡ 2 → Octets b → b ≡ wide 2 (big_from 0 b)
unfolding wide
two_bytes [] e o = absurd (omega arith)
two_bytes (x ∷ []) e o = absurd (omega arith)
two_bytes (x ∷ y ∷ []) e (p & (q & nil)) =
    let n : ℕ = (0 * 256 + x) * 256 + y in
    let i : n / 256 % 256 ≡ x = omega arith in
    let j : n % 256 ≡ y = omega arith in
    rw (i, j)
two_bytes (x ∷ y ∷ z ∷ b) e o = absurd (omega arith)

four_bytes : (b : List ℕ) → length b ≡ 4 → Octets b → b ≡ wide 4 (big_from 0 b)
unfolding wide
four_bytes [] e o = absurd (omega arith)
four_bytes (x ∷ []) e o = absurd (omega arith)
four_bytes (x ∷ y ∷ []) e o = absurd (omega arith)
four_bytes (x ∷ y ∷ z ∷ []) e o = absurd (omega arith)
four_bytes (x ∷ y ∷ z ∷ w ∷ []) e (p & (q & (r & (t & nil)))) =
    let n : ℕ = (((0 * 256 + x) * 256 + y) * 256 + z) * 256 + w in
    let a : n / 256 / 256 / 256 % 256 ≡ x = omega arith in
    let i : n / 256 / 256 % 256 ≡ y = omega arith in
    let j : n / 256 % 256 ≡ z = omega arith in
    let k : n % 256 ≡ w = omega arith in
    rw (a, i, j, k)
four_bytes (x ∷ y ∷ z ∷ w ∷ v ∷ b) e o = absurd (omega arith)

two_of : (n : ℕ) (b : List ℕ) → Big 2 n b → Octets b → b ≡ wide 2 n
two_of _ b (big e) o = two_bytes b e o

four_of : (n : ℕ) (b : List ℕ) → Big 4 n b → Octets b → b ≡ wide 4 n
four_of _ b (big e) o = four_bytes b e o

string_once : {P : List ℕ → Type 0} {s b : List ℕ} → Sized (Big 2) (Is P) s b → Octets b → b ≡ string s
unfolding string
string_once {P = P} (sized {a = s} {b = b} {c = c} n h) o = go s b h n (each_left c b o)
  where
    go : (s b : List ℕ) → Is P s b → Big 2 (length b) c → Octets c → c ++ b ≡ wide 2 (length s) ++ s
    go _ b (is p) n q = ap (λ (l : List ℕ). l ++ b) (two_of (length b) c n q)

-- a value has one spelling, the one that is written
pub value_once : (f : Form) (v : Value) (b : List ℕ) → Spelt f v b → Octets b → b ≡ value f v
unfolding value numeral
value_once u8 _ _ (mapped byte) o = refl
value_once u16 _ b (mapped {a = n} g) o = two_of n b g o
value_once u32 _ b (mapped {a = n} g) o = four_of n b g o
value_once number _ b (mapped (only {a = n} z g)) o = one_spelling n b g o
value_once text _ _ (mapped g) o = string_once g o
value_once bytes _ _ (mapped g) o = string_once g o
value_once pair _ _ (mapped (both {b = b} {d = d} g h)) o = rw (string_once g (each_left b d o), string_once h (each_right b d o))

-- and so has a property
pub property_once : {row : Row} {p : Prop} {b : List ℕ} → Property row p b → Octets b → (f : Form) × (form_at row p.0 ≡ some f) × (b ≡ p.0 ∷ value f p.1)
property_once (property {i = i} {f = f} {v = v} {b = b} e g) o = (f, e, ap (λ (l : List ℕ). i ∷ l) (value_once f v b g (each_tail o)))
