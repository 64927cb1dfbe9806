-- No spelling of a number has fewer bytes than the one that is written. Assumes nothing.
use mathlib.Core.Path.{◌≡◌, refl, ap}
use mathlib.Core.Bool.{Bool, true, false}
use mathlib.Core.List.{List, [], ◌∷◌}
use Prim.Native.Nat.{ℕ, zero, suc, ◌+◌, ◌-◌, ◌*◌, ◌/◌, ◌%◌, ◌^◌, ◌≤◌, ◌<◌}
use native.Mathlib.Omega.{arith}
use native.Mathlib.Nat.{pow-suc, one-le-pow}
use lib.Dec.{ltb, ltb→lt}
use lib.ListN.{length}
use borrow.Author.Tests.{ltb-false, lt-ltb, le-ltb}
use Rattle.grammar.specs.Gram.{only_by}
use Rattle.grammar.specs.Number.{Groups, last, next, Spells}
use Rattle.grammar.specs.Octets.{Octets}
use Rattle.reading.proofs.Lists.{T_of}
use Rattle.reading.proofs.Fields.{groups_solid, num_solid}
use Rattle.writing.specs.Spell.{spell_step, spell, short}
use Rattle.writing.proofs.Each.{each_head, each_tail}
use Rattle.writing.proofs.Says.{Needs, needed_is}
use Rattle.writing.proofs.Sizes.{spell_less, spell_more}

-- so many bytes spell no more
groups_below : {k n : ℕ} {b : List ℕ} → Groups k n b → Octets b → n < 128 ^ length b
groups_below (last {x = x} h) o = omega arith
groups_below (next {x = x} {n = n} {b = b} h g) o =
    let p : 128 ^ suc (length b) ≡ 128 ^ length b * 128 = pow-suc 128 (length b) in
    let q : x < 256 = each_head o in
    let i = groups_below g (each_tail o) in
    rw p (omega arith)

spell_fits : (k j n : ℕ) → n < 128 ^ suc j → length (spell k n) ≤ suc j
unfolding spell
spell_fits zero j n h = omega arith
spell_fits (suc k) j n h = go (ltb n 128) refl j h (λ i. spell_fits k i (n / 128))
  where
    go : (t : Bool) → ltb n 128 ≡ t → (j : ℕ) → n < 128 ^ suc j → ((i : ℕ) → n / 128 < 128 ^ suc i → length (spell k (n / 128)) ≤ suc i) → length (spell (suc k) n) ≤ suc j
    go true e j h ih = omega (arith, spell_less k n (ltb→lt n 128 (T_of (ltb n 128) e)))
    go false e zero h ih = absurd (omega (arith, ltb-false n 128 e))
    go false e (suc i) h ih =
        let p : 128 ^ suc (suc i) ≡ 128 ^ suc i * 128 = pow-suc 128 (suc i) in
        let q = ih i (omega arith) in
        omega (arith, spell_more k n (ltb-false n 128 e))

-- 02, P8: "The grammar of 01 loses these spellings": a number has one spelling, the one that is written
groups_spell : {k n : ℕ} {b : List ℕ} → Groups k n b → Octets b → Needs n (length b) → b ≡ spell k n
unfolding spell spell_step
groups_spell (last {k = k} {x = x} h) o d = rw (lt-ltb x 128 h)
groups_spell (next {k = k} {x = x} {n = n} {b = b} h g) o d = go b g o d (λ e. groups_spell g (each_tail o) e)
  where
    go : (b : List ℕ) → Groups k n b → Octets (x ∷ b) → Needs (x - 128 + 128 * n) (length (x ∷ b)) → (Needs n (length b) → b ≡ spell k n) → x ∷ b ≡ spell (suc k) (x - 128 + 128 * n)
    go [] g o d ih = absurd (groups_solid k n [] g refl)
    go (y ∷ c) g o d ih =
        let q : x < 256 = each_head o in
        let j : suc (suc (length c)) - 1 ≡ suc (length c) = omega arith in
        let p : 128 ^ suc (length c) ≡ 128 ^ length c * 128 = pow-suc 128 (length c) in
        let w : 128 ^ length c * 128 ≤ x - 128 + 128 * n = rw (j, p) at (d (omega arith)) in
        let u : 1 ≤ 128 ^ length c = one-le-pow (length c) 128 (omega arith) in
        let a : (x - 128 + 128 * n) % 128 + 128 ≡ x = omega arith in
        let i : (x - 128 + 128 * n) / 128 ≡ n = omega arith in
        let r : suc (length c) - 1 ≡ length c = omega arith in
        rw (le-ltb (x - 128 + 128 * n) 128 (omega arith), a, i) (ap (λ (l : List ℕ). x ∷ l) (ih (λ _. rw r (omega arith))))

pub one_spelling : (n : ℕ) (b : List ℕ) → Spells n b → Octets b → b ≡ short n
unfolding short
one_spelling n b (only_by s g) o = groups_spell g o (needed_is n (length b) s)

-- a number that is not larger is written with no more bytes than any spelling has
pub short_fits : (m n : ℕ) (b : List ℕ) → Spells n b → Octets b → m ≤ n → length (short m) ≤ length b
unfolding short
short_fits m n [] g o l = absurd (num_solid 4 n [] g refl)
short_fits m n (x ∷ b) (only_by s g) o l = let h = groups_below g o in spell_fits 4 (length b) m (omega arith)

-- 01, grammar: "only the shortest is written"
pub short_shortest : (n : ℕ) (b : List ℕ) → Spells n b → Octets b → length (short n) ≤ length b
short_shortest n b g o = short_fits n n b g o (omega arith)
