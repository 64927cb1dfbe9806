-- What bytes below 256 can spell. Assumes nothing.
use mathlib.Core.Path.{◌≡◌}
use mathlib.Core.List.{List}
use Prim.Native.Nat.{ℕ, suc, ◌*◌, ◌^◌, ◌≤◌, ◌<◌}
use native.Mathlib.Omega.{arith}
use native.Mathlib.Nat.{pow-suc, one-le-pow}
use Rattle.grammar.specs.Octets.{Octets, ◌&◌}
use Rattle.grammar.specs.Gram.{only_by}
use Rattle.grammar.specs.Number.{Groups, last, next, Spells}

-- 01, grammar: "seven bits each": k bytes spell a number of 7 k bits
pub groups_small : {k n : ℕ} {b : List ℕ} → Groups k n b → Octets b → n < 128 ^ k
groups_small (last {k = k} {x = x} h) o =
    let p : 128 ^ suc k ≡ 128 ^ k * 128 = pow-suc 128 k in
    let q : 1 ≤ 128 ^ k = one-le-pow k 128 (omega arith) in
    rw p (omega arith)
groups_small (next {k = k} {x = x} {n = n} {b = b} h g) (q & o) =
    let p : 128 ^ suc k ≡ 128 ^ k * 128 = pow-suc 128 k in
    let i = groups_small g o in
    rw p (omega arith)

-- 01, grammar: "Largest: 268,435,455"
pub spells_small : (n : ℕ) (b : List ℕ) → Spells n b → Octets b → n ≤ 268435455
spells_small n b (only_by s g) o = let h = groups_small g o in omega arith
