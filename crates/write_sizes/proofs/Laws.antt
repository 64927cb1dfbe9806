-- Sums that are cut off, and identifiers counted one by one. Assumes nothing.
use mathlib.Core.Path.{◌≡◌, refl, sym, ap, ◌∙◌}
use mathlib.Core.Bool.{Bool, true, false, cond}
use mathlib.Core.List.{List}
use Prim.Native.Nat.{ℕ, suc, ◌+◌, ◌≤◌, ◌<◌}
use native.Mathlib.Omega.{arith}
use native.Mathlib.Numerals.{add-one}
use lib.Dec.{ltb}
use lib.ListN.{length, drop, get_or, drop_of_length-le}
use lib.Seq.{drop-cons}
use Rattle.grammar.specs.Tables.{number}
use Rattle.writing.specs.Handed.{several}
use Rattle.writing.specs.Size.{len_len, given_size, cap}
use Rattle.writing.proofs.ForCode.{cap_add}

pub len_len_most : (n : ℕ) → len_len n ≤ 4
len_len_most n = go (ltb n 128) (ltb n 16384) (ltb n 2097152)
  where
    go : (a b c : Bool) → cond a 1 (cond b 2 (cond c 3 4)) ≤ 4
    go true b c = omega arith
    go false true c = omega arith
    go false false true = omega arith
    go false false false = omega arith

-- what was cut off is cut off already
pub cap_cap : (n : ℕ) → cap (cap n) ≡ cap n
cap_cap n =
    let e : cap n + 0 ≡ cap n = omega arith in
    let f : n + 0 ≡ n = omega arith in
    rw (e, f) at (cap_add n 0)

-- one summand is cut off
pub cap_left : (a m n : ℕ) → a ≡ cap m → cap (a + n) ≡ cap (m + n)
cap_left a m n e = rw e (cap_add m n)

-- both are
pub cap_both : (a b m n : ℕ) → a ≡ cap m → b ≡ cap n → cap (a + b) ≡ cap (m + n)
cap_both a b m n e f =
    let i : m + b ≡ b + m = omega arith in
    let j : n + m ≡ m + n = omega arith in
    cap_left a m b e ∙ ap cap i ∙ cap_left b n m f ∙ ap cap j

-- the last of several
pub cap_last : (a b m n : ℕ) → a ≡ cap m → b ≡ cap n → cap (a + b) ≡ cap (m + (n + 0))
cap_last a b m n e f =
    let i : n + 0 ≡ n = omega arith in
    rw i (cap_both a b m n e f)

-- ---- identifiers

-- of the identifiers those before the i-th are counted
pub record Counted (ns : List ℕ) (n i : ℕ) : Type 0 where
  pub own : cap n ≡ n
  pub rest : cap (given_size number (several ns)) ≡ cap (n + given_size number (several (drop i ns)))

pub none_counted : (ns : List ℕ) → Counted ns 0 0
none_counted ns =
    let e : 0 + given_size number (several ns) ≡ given_size number (several ns) = omega arith in
    record { own = refl; rest = rw e }

module _ {ns : List ℕ} {n i : ℕ} (p : Counted ns n i) where
  pub one_counted : i < length ns → (k m : ℕ) → k ≡ 1 + len_len (get_or ns i 0) → m ≡ cap (n + k) → Counted ns m (i + 1)
  one_counted h k m e f =
      let t : ℕ = given_size number (several (drop (suc i) ns)) in
      let s : n + (k + t) ≡ n + k + t = omega arith in
      record {
        own = rw f (cap_cap (n + k));
        rest = p.rest ∙ rw (drop-cons ns i 0 h, add-one i, f, cap_add (n + k) t, ← s, e);
      }

  pub all_counted : length ns ≤ i → n ≡ cap (given_size number (several ns))
  all_counted h =
      let e : n + 0 ≡ n = omega arith in
      sym (p.rest ∙ rw (drop_of_length-le ns h, e) p.own)
