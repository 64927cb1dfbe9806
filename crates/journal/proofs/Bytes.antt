-- Numbers in bytes, and back.
-- Assumes nothing.
use mathlib.Core.Path.{◌≡◌, refl, sym, ap, ap₂, ◌∙◌}
use Prim.Native.Nat.{ℕ, zero, suc, ◌+◌, ◌*◌, ◌/◌, ◌%◌, ◌^◌, ◌<◌}
use native.Mathlib.Nat.{not-suc-le-zero, mod-lt, zero-lt-suc, mod-eq_of_lt, pow-suc, add-mul, mul_assoc, mul_comm, add_assoc, mod-one}
use native.Mathlib.Omega.{arith}
use lib.Arith.{mod-mul}
use lib.ListN.{length, get_or}
use Rattle.journal.specs.Block.{each, bytes_of, big_endian_from, big_endian}

pub pow_pos : (k : ℕ) → 0 < 256 ^ k
pow_pos zero = omega arith
pow_pos (suc k) = let e : 256 ^ suc k ≡ 256 ^ k * 256 = pow-suc 256 k in let p : 0 < 256 ^ k = pow_pos k in omega (arith, e, p)

pub length_bytes_of : (k n : ℕ) → length (bytes_of k n) ≡ k
unfolding bytes_of
length_bytes_of zero n = refl
length_bytes_of (suc k) n = ap suc (length_bytes_of k n)

pub bytes_of_small : (k n i : ℕ) → get_or (bytes_of k n) i 0 < 256
unfolding bytes_of
bytes_of_small zero n i = omega arith
bytes_of_small (suc k) n zero = mod-lt (n / 256 ^ k) (zero-lt-suc 255)
bytes_of_small (suc k) n (suc i) = bytes_of_small k n i

read_back : (k n m : ℕ) → big_endian_from m (bytes_of k n) ≡ m * 256 ^ k + n % 256 ^ k
unfolding bytes_of big_endian_from
read_back zero n m = let e : n % 1 ≡ 0 = mod-one n in omega (arith, e)
read_back (suc k) n m =
    read_back k n (m * 256 + n / 256 ^ k % 256)
    ∙ ap (λ (x : ℕ). x + n % 256 ^ k) (add-mul (m * 256) (n / 256 ^ k % 256) (256 ^ k))
    ∙ add_assoc (m * 256 * 256 ^ k) (n / 256 ^ k % 256 * 256 ^ k) (n % 256 ^ k)
    ∙ ap₂ (λ (x y : ℕ). x + y)
    (mul_assoc m 256 (256 ^ k) ∙ ap (λ (x : ℕ). m * x) p)
    (sym (mod-mul n (zero-lt-suc 255) (pow_pos k)) ∙ ap (λ (x : ℕ). n % x) p)
  where
    p : 256 * 256 ^ k ≡ 256 ^ suc k
    p = mul_comm 256 (256 ^ k) ∙ sym (pow-suc 256 k)

pub big_endian_bytes_of : (k n : ℕ) → n < 256 ^ k → big_endian (bytes_of k n) ≡ n
big_endian_bytes_of k n h = read_back k n 0 ∙ let e : n % 256 ^ k ≡ n = mod-eq_of_lt h in omega (arith, e)

-- ---- each

pub length_each : (f : ℕ → ℕ) (i n : ℕ) → length (each f i n) ≡ n
unfolding each
length_each f i zero = refl
length_each f i (suc n) = ap suc (length_each f (suc i) n)

pub get_d_each : (f : ℕ → ℕ) (i n k : ℕ) → k < n → get_or (each f i n) k 0 ≡ f (i + k)
unfolding each
get_d_each f i zero k h = absurd (not-suc-le-zero h)
get_d_each f i (suc n) zero h = let e : i ≡ i + 0 = omega arith in ap f e
get_d_each f i (suc n) (suc k) h = let e : suc i + k ≡ i + suc k = omega arith in get_d_each f (suc i) n k (omega arith) ∙ ap f e
