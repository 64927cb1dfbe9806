-- Numbers of a fixed width at an index of a slice: one law for every width. Assumes nothing.
use mathlib.Core.Path.{◌≡◌, refl, sym, ap, ◌∙◌}
use mathlib.Core.List.{List, [], ◌∷◌}
use Prim.Native.Nat.{ℕ, zero, suc, ◌+◌, ◌-◌, ◌*◌, ◌≤◌, ◌<◌}
use native.Mathlib.Omega.{arith}
use lib.Dec.{eqb}
use lib.ListN.{length, drop, get_or, length-drop}
use borrow.Author.Tests.{le-leb, lt-leb}
use Rattle.grammar.specs.Number.{big_from}
use Rattle.reading.specs.Refusal.{Refusal}
use Rattle.reading.specs.Reader.{got, bad}
use Rattle.reading.specs.Read.{big_of, byte_of}
use Rattle.positions.specs.Position.{from_at}
use Rattle.positions.proofs.At.{list_at, big_at}
use Rattle.positions.proofs.Position.{left_at}
use Rattle.records.specs.AsNumbers.{told_bool}

-- a flag is a bit
pub flag_told : (n : ℕ) → n < 2 → told_bool (eqb n 1) ≡ n
flag_told zero h = refl
flag_told (suc zero) h = refl
flag_told (suc (suc n)) h = absurd (omega arith)

-- the index k further on, as code says it
abbrev pub further : ℕ → ℕ → ℕ
further at zero = at
further at (suc k) = at + suc k

-- the k digits from index at, as code sums them up
abbrev pub digits : ℕ → ℕ → List ℕ → ℕ
digits zero at s = 0
digits (suc k) at s = digits k at s * 256 + get_or s (further at k) 0

further_suc : (at k : ℕ) → further at (suc k) ≡ further (suc at) k
further_suc at zero = omega arith
further_suc at (suc k) = omega arith

big_snoc : (s : List ℕ) (k n at : ℕ) → big_from n (list_at (suc k) at s) ≡ big_from n (list_at k at s) * 256 + get_or s (further at k) 0
big_snoc s zero n at = refl
big_snoc s (suc k) n at = rw (further_suc at k) (big_snoc s k (n * 256 + get_or s at 0) (suc at))

big_digits : (s : List ℕ) (k at : ℕ) → big_from 0 (list_at k at s) ≡ digits k at s
big_digits s zero at = refl
big_digits s (suc k) at = big_snoc s k 0 at ∙ ap (λ (n : ℕ). n * 256 + get_or s (further at k) 0) (big_digits s k at)

module _ (c : Refusal) (k at : ℕ) (s : List ℕ) where
  pub fixed_at : (n : ℕ) → at + k ≤ length s → n ≡ digits k at s → got (n, at + k) ≡ from_at (big_of c k) s at
  fixed_at n h e =
      let d : n ≡ big_from 0 (list_at k at s) = e ∙ sym (big_digits s k at) in
      sym (left_at (big_of c k) s at n (at + k) (rw d (big_at c k at s h)) h)

  pub fixed_cut : length s - at < k → bad c ≡ from_at (big_of c k) s at
  unfolding big_of from_at
  fixed_cut h = rw (lt-leb k (length (drop at s)) (rw length-drop h))

-- one byte is a number of width 1
byte_big : (c : Refusal) (l : List ℕ) → big_of c 1 l ≡ byte_of c l
unfolding byte_of big_of
byte_big c [] = refl
byte_big c (x ∷ l) = let e : 0 + x ≡ x = omega arith in rw (le-leb 1 (length (x ∷ l)) (omega arith), e)

pub byte_width : (c : Refusal) (at : ℕ) (s : List ℕ) → from_at (big_of c 1) s at ≡ from_at (byte_of c) s at
unfolding from_at
byte_width c at s = rw (byte_big c (drop at s))
