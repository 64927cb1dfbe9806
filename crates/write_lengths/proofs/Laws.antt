-- The shortest spelling, turn by turn: how it goes on, and what a writer has put. Assumes nothing.
use mathlib.Core.Path.{◌≡◌, sym, ap, ◌∙◌}
use mathlib.Core.List.{List, [], ◌∷◌}
use Prim.Native.Nat.{ℕ, suc, ◌+◌, ◌-◌, ◌/◌, ◌%◌, ◌≤◌, ◌<◌}
use native.Mathlib.Omega.{arith}
use borrow.Author.Tests.{lt-ltb, le-ltb}
use lib.ListN.{length}
use lib.Seq.{sets, length-sets}
use Rattle.writing.specs.Spell.{wide, spell_step, spell, short}
use Rattle.write_numbers.proofs.Laws.Put.{wide_one}

-- ---- the shortest spelling

pub spell_last : (k n : ℕ) → n < 128 → spell (suc k) n ≡ n ∷ []
unfolding spell spell_step
spell_last k n h = rw (lt-ltb _ _ h)

pub spell_next : (k n : ℕ) → 128 ≤ n → spell (suc k) n ≡ (n % 128 + 128) ∷ spell k (n / 128)
unfolding spell spell_step
spell_next k n h = rw (le-ltb _ _ h)

-- ---- writing

-- i bytes of the spelling of n are put, and what is left to put is the spelling of `rest`
pub record Spelt (before : List ℕ) (at n : ℕ) (out : List ℕ) (rest i : ℕ) : Type 0 where
  pub stores : sets before at (short n) ≡ sets out (at + i) (spell (4 - i) rest)
  pub count : length (short n) ≡ i + length (spell (4 - i) rest)

-- all of it is put
abbrev pub Short : List ℕ → ℕ → ℕ → List ℕ → ℕ → Type 0
Short before at n out count = (out ≡ sets before at (short n)) × (count ≡ length (short n))

pub none_spelt : (before : List ℕ) (at n : ℕ) → Spelt before at n before n 0
unfolding short
none_spelt before at n =
    let e : at + 0 ≡ at = omega arith in
    record { stores = rw e; count = omega arith }

module _ {before : List ℕ} {at n : ℕ} {out : List ℕ} {rest i : ℕ} (p : Spelt before at n out rest i) where
  pub spelt_same : length out ≡ length before
  spelt_same = sym (length-sets out (at + i) (spell (4 - i) rest)) ∙ ap length (sym p.stores) ∙ length-sets before at (short n)

  module _ (l : i < 4) (out' : List ℕ) where
    one_more : 4 - i ≡ suc (4 - (i + 1))
    one_more = omega arith

    pub spelt_last : rest < 128 → out' ≡ sets out (at + i) (wide 1 rest) → Short before at n out' (i + 1)
    spelt_last h e =
        let z : spell (4 - i) rest ≡ rest ∷ [] = rw one_more (spell_last (4 - (i + 1)) rest h) in
        let w : wide 1 rest ≡ rest ∷ [] = sym (wide_one (omega arith)) in
        (e ∙ rw w (sym (p.stores ∙ rw z)), sym (p.count ∙ rw z))

    pub spelt_next : 128 ≤ rest → out' ≡ sets out (at + i) (wide 1 (rest % 128 + 128)) → Spelt before at n out' (rest / 128) (i + 1)
    spelt_next h e =
        let z : spell (4 - i) rest ≡ (rest % 128 + 128) ∷ spell (4 - (i + 1)) (rest / 128) = rw one_more (spell_next (4 - (i + 1)) rest h) in
        let w : wide 1 (rest % 128 + 128) ≡ (rest % 128 + 128) ∷ [] = sym (wide_one (omega arith)) in
        let m : at + (i + 1) ≡ suc (at + i) = omega arith in
        record { stores = p.stores ∙ rw (z, m, e, w); count = p.count ∙ rw z (omega arith) }

  -- after four groups nothing is left
  pub spelt_full : 4 ≤ i → i ≤ 4 → Short before at n out 4
  unfolding spell
  spelt_full f g =
      let z : i ≡ 4 = omega arith in
      (sym (p.stores ∙ rw z), sym (p.count ∙ rw z))
