-- What is written is in the grammar, and is bytes: one law for each way to build a grammar. Assumes nothing.
use mathlib.Core.Path.{◌≡◌, refl, ◌∙◌, subst}
use mathlib.Core.Bool.{Bool, true, false, ◌||◌}
use mathlib.Core.List.{List, [], ◌∷◌, ◌++◌, map}
use Prim.Native.Nat.{ℕ, zero, suc, ◌+◌, ◌-◌, ◌*◌, ◌/◌, ◌%◌, ◌^◌, ◌≤◌, ◌<◌}
use native.Mathlib.Omega.{arith}
use native.Mathlib.Nat.{pow-suc}
use lib.Dec.{leb, leb→le, ltb, ltb→lt}
use lib.ListN.{length, length-append}
use borrow.Author.Tests.{ltb-false, le-leb, lt-leb, leb-false}
use Rattle.grammar.specs.Gram.{Gram, Nothing, nothing, Map, mapped, Only, only, only_by, Then, both, Sized, sized, done, more, Many, Is, is}
use Rattle.grammar.specs.Number.{Byte, byte, big_from, Big, big, Groups, last, next, shortest, Spells}
use Rattle.grammar.specs.Octets.{Each, nil, ◌&◌, Octets}
use Rattle.reading.proofs.Lists.{T_of}
use Rattle.writing.specs.Lists.{flat}
use Rattle.writing.specs.Spell.{wide, spell_step, spell, short, counted}
use Rattle.writing.specs.Size.{most}
use Rattle.writing.proofs.Each.{each_append}

-- the bytes b say a
pub record Says {A : Type 0} (G : Gram A) (a : A) (b : List ℕ) : Type 0 where
  pub spelled : G a b
  pub octets : Octets b

-- ---- the ways to build a grammar

pub says_nothing : {A : Type 0} (a : A) → Says (Nothing a) a []
says_nothing a = record { spelled = nothing; octets = nil }

pub says_map : {A B : Type 0} {G : Gram A} (f : A → B) {a : A} {b : List ℕ} → Says G a b → Says (Map f G) (f a) b
says_map f s = record { spelled = mapped s.spelled; octets = s.octets }

pub says_only : {A : Type 0} {G : Gram A} (t : A → Bool) {a : A} {b : List ℕ} → t a ≡ true → Says G a b → Says (Only t G) a b
says_only t e s = record { spelled = only e s.spelled; octets = s.octets }

pub says_then : {A B : Type 0} {G : Gram A} {H : A → Gram B} {a : A} {c : B} {b d : List ℕ} → Says G a b → Says (H a) c d → Says (Then G H) (a, c) (b ++ d)
says_then s t = record { spelled = both s.spelled t.spelled; octets = each_append s.octets t.octets }

pub says_sized : {A : Type 0} {N : Gram ℕ} {H : Gram A} {a : A} {b c : List ℕ} → Says N (length b) c → Says H a b → Says (Sized N H) a (c ++ b)
says_sized s t = record { spelled = sized s.spelled t.spelled; octets = each_append s.octets t.octets }

pub says_is : (P : List ℕ → Type 0) (b : List ℕ) → P b → Octets b → Says (Is P) b b
says_is P b p o = record { spelled = is p; octets = o }

pub says_many : {A B : Type 0} {G : Gram A} (f : B → A) (w : B → List ℕ) (l : List B) → Each (λ x. Says G (f x) (w x)) l → Says (Many G) (map f l) (flat w l)
says_many f w _ nil = record { spelled = done; octets = nil }
says_many f w _ (◌&◌ {l = l} p ps) =
    let r = says_many f w l ps in
    record { spelled = more p.spelled r.spelled; octets = each_append p.octets r.octets }

-- ---- numbers

pub says_byte : (x : ℕ) → x < 256 → Says Byte x (x ∷ [])
says_byte x h = record { spelled = byte; octets = h & nil }

big_snoc : (n x : ℕ) (b : List ℕ) → big_from n (b ++ (x ∷ [])) ≡ big_from n b * 256 + x
big_snoc n x [] = refl
big_snoc n x (y ∷ b) = big_snoc (n * 256 + y) x b

wide_value : (k n : ℕ) → n < 256 ^ k → big_from 0 (wide k n) ≡ n
unfolding wide
wide_value zero n h = omega arith
wide_value (suc k) n h =
    let p : 256 ^ suc k ≡ 256 ^ k * 256 = pow-suc 256 k in
    let e = wide_value k (n / 256) (omega arith) in
    big_snoc 0 (n % 256) (wide k (n / 256)) ∙ omega arith

pub length_wide : (k n : ℕ) → length (wide k n) ≡ k
unfolding wide
length_wide zero n = refl
length_wide (suc k) n = let e = length_wide k (n / 256) in simp length-append (omega arith)

wide_octets : (k n : ℕ) → Octets (wide k n)
unfolding wide
wide_octets zero n = nil
wide_octets (suc k) n = each_append (wide_octets k (n / 256)) (omega arith & nil)

-- a number of k bytes
pub says_wide : (k n : ℕ) → n < 256 ^ k → Says (Big k) n (wide k n)
says_wide k n h = record { spelled = subst (λ (m : ℕ). Big k m (wide k n)) (wide_value k n h) (big (length_wide k n)); octets = wide_octets k n }

step_octets : (n : ℕ) (b : List ℕ) → Octets b → (t : Bool) → ltb n 128 ≡ t → Octets (spell_step t n b)
unfolding spell_step
step_octets n b p true e = let h : n < 256 = omega (arith, ltb→lt n 128 (T_of (ltb n 128) e)) in h & nil
step_octets n b p false e = let h : n % 128 + 128 < 256 = omega arith in h & p

-- bytes, whatever the number
spell_octets : (k n : ℕ) → Octets (spell k n)
unfolding spell
spell_octets zero n = nil
spell_octets (suc k) n = step_octets n (spell k (n / 128)) (spell_octets k (n / 128)) (ltb n 128) refl

step_spells : (k n : ℕ) (b : List ℕ) → (128 ≤ n → Groups k (n / 128) b) → (t : Bool) → ltb n 128 ≡ t → Groups (suc k) n (spell_step t n b)
unfolding spell_step
step_spells k n b g true e = last (ltb→lt n 128 (T_of (ltb n 128) e))
step_spells k n b g false e =
    let v : n % 128 + 128 - 128 + 128 * (n / 128) ≡ n = omega arith in
    subst (λ (m : ℕ). Groups (suc k) m ((n % 128 + 128) ∷ b)) v (next (omega arith) (g (ltb-false n 128 e)))

-- k + 1 bytes hold what is below 128 to the k + 1
spell_spells : (k n : ℕ) → n < 128 ^ suc k → Groups (suc k) n (spell (suc k) n)
unfolding spell
spell_spells zero n h = step_spells zero n (spell zero (n / 128)) (λ l. absurd (omega arith)) (ltb n 128) refl
spell_spells (suc k) n h =
    let p : 128 ^ suc (suc k) ≡ 128 ^ suc k * 128 = pow-suc 128 (suc k) in
    step_spells (suc k) n (spell (suc k) (n / 128)) (λ l. spell_spells k (n / 128) (omega arith)) (ltb n 128) refl

-- ---- 02, P8: no more bytes than it needs

-- k bytes, of which k - 1 could not hold n
abbrev pub Needs : ℕ → ℕ → Type 0
Needs n k = 1 < k → 128 ^ (k - 1) ≤ n

pub is_needed : (n k : ℕ) → Needs n k → shortest n k ≡ true
is_needed n k h = go (leb k 1) refl
  where
    go : (t : Bool) → leb k 1 ≡ t → (t || leb (128 ^ (k - 1)) n) ≡ true
    go true e = refl
    go false e = le-leb (128 ^ (k - 1)) n (h (leb-false k 1 e))

pub needed_is : (n k : ℕ) → shortest n k ≡ true → Needs n k
needed_is n k h l = leb→le (128 ^ (k - 1)) n (T_of (leb (128 ^ (k - 1)) n) (rw (lt-leb k 1 l) at h))

one_more_lem : (k n : ℕ) → 128 ≤ n → Needs (n / 128) k → Needs n (suc k)
one_more_lem zero n h g l = absurd (omega arith)
one_more_lem (suc zero) n h g l = omega arith
one_more_lem (suc (suc k)) n h g l =
    let p : 128 ^ suc (suc k) ≡ 128 ^ suc k * 128 = pow-suc 128 (suc k) in
    let i : suc (suc k) - 1 ≡ suc k = omega arith in
    let j : suc (suc (suc k)) - 1 ≡ suc (suc k) = omega arith in
    let q : 128 ^ suc k ≤ n / 128 = rw i at (g (omega arith)) in
    rw (j, p) (omega arith)

step_needs : (n : ℕ) (b : List ℕ) → Needs (n / 128) (length b) → (t : Bool) → ltb n 128 ≡ t → Needs n (length (spell_step t n b))
unfolding spell_step
step_needs n b g true e l = absurd (omega arith)
step_needs n b g false e l = one_more_lem (length b) n (ltb-false n 128 e) g l

spell_needs : (k n : ℕ) → Needs n (length (spell k n))
unfolding spell
spell_needs zero n l = absurd (omega arith)
spell_needs (suc k) n l = step_needs n (spell k (n / 128)) (spell_needs k (n / 128)) (ltb n 128) refl l

-- a number of at most four bytes
pub says_short : (n : ℕ) → n ≤ most → Says Spells n (short n)
unfolding short
says_short n h = record { spelled = only_by (is_needed n (length (spell 4 n)) (spell_needs 4 n)) (spell_spells 3 n (omega arith)); octets = spell_octets 4 n }

pub says_counted : {A : Type 0} {H : Gram A} {a : A} {b : List ℕ} → length b ≤ most → Says H a b → Says (Sized Spells H) a (counted b)
unfolding counted
says_counted {b = b} h s = says_sized (says_short (length b) h) s
