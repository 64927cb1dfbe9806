-- A number has one spelling, and a Publish one frame for its record and the order of its properties (02, P8): no other spelling of a length,
-- a string or a property is left. Assumes nothing.
use mathlib.Core.Path.{◌≡◌, refl, sym, ap, ◌∙◌, subst}
use mathlib.Core.Bool.{Bool, true, false, not, false≢true}
use mathlib.Core.Option.{some}
use mathlib.Core.Logic.{◌↔◌}
use mathlib.Core.List.{List, ◌∷◌, ◌++◌}
use Prim.Native.Nat.{ℕ, zero, suc, ◌+◌, ◌*◌, ◌/◌, ◌≤◌}
use native.Mathlib.Omega.{arith}
use lib.Dec.{eqb, eqb-suc-zero}
use lib.ListN.{length}
use borrow.Author.Tests.{eqb-true}
use Rattle.grammar.specs.Choice.{lookup}
use Rattle.grammar.specs.Gram.{mapped, only, both, sized, done, more, Many, is}
use Rattle.grammar.specs.Number.{byte, Spells}
use Rattle.grammar.specs.Octets.{Octets}
use Rattle.grammar.specs.Tables.{u16, bytes, Row, publish_row, Layout, a_publish, an_ack, a_subscribe, a_reply, an_unsubscribe, a_ping, kinds}
use Rattle.grammar.specs.Record.{num, str, Publish, kind_of, flag_dup, flag_qos, flag_retain}
use Rattle.grammar.specs.Record as g
use Rattle.grammar.specs.Gram.{nothing}
use Rattle.grammar.specs.Sentence.{Prop, Property, none_twice, Block, publish_of, Ident, Packet, Fields, body, framed, Sentence}
use Rattle.grammar.proofs.Numbers.{spells_small}
use Rattle.reading.proofs.Lists.{lookup_each}
use Rattle.writing.specs.Lists.{flat}
use Rattle.writing.specs.Spell.{short, string, numeral, value, counted}
use Rattle.writing.specs.Write.{first_byte, ident_bytes}
use Rattle.writing.proofs.Each.{each_tail, each_left, each_right}
use Rattle.writing.proofs.Tests.{all_when}
use Rattle.writing.proofs.Says.{says_short}
use Rattle.writing.proofs.Shortest.{one_spelling}
use Rattle.writing.proofs.Once.{value_once, property_once}
use Rattle.tidy_form.specs.Form.{value_in, property_bytes, block_of, body_of, first_of_publish, form_of, Formed}

-- ---- numbers

-- 02, P8: "MQTT 1.5.5 demands the shortest spelling": two spellings of a number are one
pub same_spelling : (n : ℕ) (b c : List ℕ) → Spells n b → Octets b → Spells n c → Octets c → b ≡ c
same_spelling n b c k o l q = one_spelling n b k o ∙ sym (one_spelling n c l q)

-- 01, grammar: "Largest: 268,435,455": every number up to it, and no other, has a spelling, and just one
pub spelled_once : (n : ℕ) → (n ≤ 268435455) ↔ ((b : List ℕ) × Spells n b × Octets b × ((c : List ℕ) → Spells n c → Octets c → c ≡ b))
spelled_once n = (
  λ h. let w = says_short n h in (short n, w.spelled, w.octets, λ c. one_spelling n c),
  λ (b, k, o, u). spells_small n b k o,
)

-- ---- blocks

property_form : {row : Row} (p : Prop) (b : List ℕ) → Property row p b → Octets b → b ≡ property_bytes row p
property_form p b k o = let (f, e, i) = property_once k o in i ∙ ap (λ o. p.0 ∷ value_in o p.1) (sym e)

properties_form : (row : Row) (ps : List Prop) (b : List ℕ) → Many (Property row) ps b → Octets b → b ≡ flat (property_bytes row) ps
properties_form row _ _ done o = refl
properties_form row _ _ (more {a = p} {vs = ps} {b = b} {c = c} k m) o =
    let i = property_form p b k (each_left b c o) in
    let j = properties_form row ps c m (each_right b c o) in
    ap (λ (l : List ℕ). l ++ c) i ∙ ap (λ (l : List ℕ). property_bytes row p ++ l) j

-- a number and as many bytes
counted_form : (b c : List ℕ) → Spells (length b) c → Octets c → c ++ b ≡ counted b
unfolding counted
counted_form b c k o = ap (λ (l : List ℕ). l ++ b) (one_spelling (length b) c k o)

block_form : {A : Type 0} (row : Row) (f : List Prop → A) (a : A) (b : List ℕ) → Block row f a b → Octets b
    → (ps : List Prop) × (none_twice row ps ≡ true) × (a ≡ f ps) × (b ≡ block_of row ps)
unfolding block_of
block_form row f _ _ (sized {b = b} {c = c} k (mapped {a = ps} (only t m))) o =
    (ps, t, refl, counted_form b c k (each_left c b o) ∙ ap counted (properties_form row ps b m (each_right c b o)))

-- ---- Publish

is_false : (t : Bool) → not t ≡ true → t ≡ false
is_false true e = absurd (false≢true e)
is_false false e = refl

pub ident_form : (q i : ℕ) (b : List ℕ) → Ident q i b → Octets b → b ≡ ident_bytes q i
unfolding value numeral
ident_form zero _ _ nothing o = refl
ident_form (suc q) i b (only t k) o = rw (eqb-suc-zero q, is_false (eqb i 0) t) (value_once u16 (num i) b (mapped k) o)

-- by computation over the table: Publish is kind 3
abbrev three : ℕ × Layout → Bool
three (k, a_publish) = eqb k 3
three (k, an_ack rs) = true
three (k, a_subscribe) = true
three (k, a_reply rs) = true
three (k, an_unsubscribe) = true
three (k, a_ping) = true

pub publish_three : (k : ℕ) → lookup kinds k ≡ some a_publish → k ≡ 3
unfolding kinds
publish_three k e = eqb-true k 3 (lookup_each (λ r. three r ≡ true) ((all_when three (λ r. (λ e. e, λ e. e)) kinds).0 refl) k a_publish e)

-- and its flags are all that is left of the first byte
pub first_again : (x : ℕ) → kind_of x ≡ 3 → x ≡ 0x30 + (8 * flag_dup x + (2 * flag_qos x + flag_retain x))
first_again x e =
    let a : x / 8 / 2 ≡ 3 = omega arith in
    let b : x / 2 / 4 ≡ x / 8 = omega arith in
    omega arith

-- what fills the frame, whose first byte is x
record Filled (m : Publish (List ℕ) List) (x : ℕ) (b : List ℕ) : Type 0 where
  order : List Prop
  single : none_twice publish_row order ≡ true
  props : m.props ≡ publish_of order
  first : x ≡ first_of_publish m
  bytes : b ≡ body_of m order

-- another record than a Publish
pub never : {X : Type 0} → ◌≡◌ {A = ℕ} 0 1 → X
never z = absurd (omega arith)

fields_form : (l : Layout) (x : ℕ) → lookup kinds (kind_of x) ≡ some l → (v : Packet) (b : List ℕ) → Fields l x v b → Octets b → (m : Publish (List ℕ) List) → v ≡ g.publish m → Filled m x b
unfolding body_of first_of_publish first_byte value
fields_form a_publish x e _ _ (only t (mapped (both {a = s} {b = b₁} {d = d₁} k₁ (both {a = i} {b = b₂} {d = d₂} k₂ (both {a = a} {c = p} {b = b₃} {d = d₃} k₃ (is _)))))) o m r =
    let q₁ = each_right b₁ d₁ o in
    let q₂ = each_right b₂ d₂ q₁ in
    let j₁ : b₁ ≡ string s = value_once bytes (str s) b₁ (mapped k₁) (each_left b₁ d₁ o) in
    let j₂ : b₂ ≡ ident_bytes (flag_qos x) i = ident_form (flag_qos x) i b₂ k₂ (each_left b₂ d₂ q₁) in
    let (ps, u, w, j₃) = block_form publish_row publish_of a b₃ k₃ (each_left b₃ d₃ q₂) in
    let n : Publish (List ℕ) List = record { dup = flag_dup x; qos = flag_qos x; retain = flag_retain x; topic = s; ident = i; props = a; payload = p } in
    let z : n ≡ m = cc in
    subst (λ (n : Publish (List ℕ) List). Filled n x (b₁ ++ (b₂ ++ (b₃ ++ p)))) z (record { order = ps; single = u; props = w; first = first_again x (publish_three (kind_of x) e); bytes = ap (λ (c : List ℕ). b₁ ++ (c ++ (b₃ ++ p))) j₂ ∙ rw (← j₁, ← j₃) })
fields_form (an_ack rs) x e _ _ (mapped w) o m r = never (cc)
fields_form a_subscribe x e _ _ (mapped w) o m r = never (cc)
fields_form (a_reply rs) x e _ _ (mapped w) o m r = never (cc)
fields_form an_unsubscribe x e _ _ (mapped w) o m r = never (cc)
fields_form a_ping x e _ _ (mapped w) o m r = never (cc)

-- 02, P8: the bytes of a sentence that says a Publish are those of its record and the order of its properties. A Publish has no ignored bits; of
-- every other kind the flags are ignored, and of a Subscribe two option bits
pub publish_form : (m : Publish (List ℕ) List) (c : List ℕ) → Sentence (g.publish m) c → Octets c → Formed m c
unfolding form_of
publish_form m _ (framed {x = x} (both byte (sized {b = b} {c = n} k (is _))) (body {l = l} e w)) o =
    let q = each_tail o in
    let f = fields_form l x e (g.publish m) b w (each_right n b q) m refl in
    record { order = f.order; single = f.single; props = f.props; bytes = rw (← f.first, ← f.bytes) (ap (λ (l : List ℕ). x ∷ l) (counted_form b n k (each_left n b q))) }

-- 02, P8: so two that say the same, with their properties in the same order, are the same bytes
pub one_form : (m : Publish (List ℕ) List) (c d : List ℕ) (f : Formed m c) (h : Formed m d) → f.order ≡ h.order → c ≡ d
one_form m c d f h e = f.bytes ∙ ap (form_of m) e ∙ sym h.bytes
