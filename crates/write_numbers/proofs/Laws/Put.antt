-- Numbers of a fixed width put by halves: one law for every width. Assumes nothing.
use mathlib.Core.Path.{◌≡◌, sym, ap, ◌∙◌}
use mathlib.Core.List.{List, [], ◌∷◌, ◌++◌, append_assoc, append-nil}
use Prim.Native.Nat.{ℕ, zero, suc, ◌+◌, ◌*◌, ◌/◌, ◌%◌, ◌^◌, ◌<◌}
use native.Mathlib.Omega.{arith}
use native.Mathlib.Nat.{pow-suc, pow-succ', one-le-pow, div-div-eq-div-mul}
use lib.Arith.{mod-mul, digits_div, digits_mod}
use lib.Seq.{sets}
use Rattle.writing.specs.Spell.{wide}
use Rattle.writing.proofs.Says.{length_wide}
use Rattle.write_bytes.proofs.Laws.{sets_then}

pub wide_one : {n : ℕ} → n < 256 → n ∷ [] ≡ wide 1 n
unfolding wide
wide_one {n} h = let e : n % 256 ≡ n = omega arith in rw e

-- the high digits, then the k low ones
wide_add : (j k n : ℕ) → wide (j + k) n ≡ wide j (n / 256 ^ k) ++ wide k (n % 256 ^ k)
unfolding wide
wide_add j zero n =
    let i : j + 0 ≡ j = omega arith in
    let d : n / 1 ≡ n = omega arith in
    rw (i, d) (sym (append-nil (wide j n)))
wide_add j (suc k) n =
    let p : ℕ = 256 ^ k in
    let h : 0 < p = one-le-pow k 256 (omega arith) in
    let m : n % (p * 256) ≡ n / 256 % p * 256 + n % 256 = mod-mul n h (omega arith) in
    let i : j + suc k ≡ suc (j + k) = omega arith in
    let r : n % 256 < 256 = omega arith in
    rw (i, pow-suc 256 k, m, digits_div (n / 256 % p) r, digits_mod (n / 256 % p) r)
    (ap (λ (l : List ℕ). l ++ (n % 256 ∷ [])) (wide_add j k (n / 256) ∙ ap (λ (q : ℕ). wide j q ++ wide k (n / 256 % p)) (div-div-eq-div-mul n 256 p ∙ ap (λ (q : ℕ). n / q) (sym (pow-succ' 256 k) ∙ pow-suc 256 k)))
    ∙ append_assoc (wide j (n / (p * 256))) (wide k (n / 256 % p)) (n % 256 ∷ []))

-- a half, and the other behind it
pub put_halves : (k n at : ℕ) (l l₁ l₂ : List ℕ) → l₁ ≡ sets l at (wide k (n / 256 ^ k)) → l₂ ≡ sets l₁ (at + k) (wide k (n % 256 ^ k)) → l₂ ≡ sets l at (wide (k + k) n)
put_halves k n at l l₁ l₂ e e₂ =
    let p : ℕ = 256 ^ k in
    rw (wide_add k k n) (sets_then (wide k (n / p)) (wide k (n % p)) l l₁ l₂ at (at + k) e (rw (length_wide k (n / p))) e₂)
