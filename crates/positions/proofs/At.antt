-- The readers at a position of a stream: what code that holds the whole slice and a position goes by. Assumes nothing.
use mathlib.Core.Path.{◌≡◌, refl, ap}
use mathlib.Core.List.{List, [], ◌∷◌}
use Prim.Native.Nat.{ℕ, zero, suc, ◌+◌, ◌-◌, ◌*◌, ◌≤◌, ◌<◌}
use native.Mathlib.Omega.{arith}
use native.Mathlib.Numerals.{add-one}
use lib.ListN.{length, take, drop, get_or, length-drop, drop_of_length-le}
use lib.Seq.{drop-cons, drop-drop, length-take-le, take-add, drop_at}
use borrow.Author.Tests.{le-leb, lt-leb, lt-ltb, le-ltb}
use Rattle.grammar.specs.Number.{big_from}
use Rattle.reading.specs.Refusal.{Refusal}
use Rattle.reading.specs.Reader.{Fit, got, bad, Reader, Filler, ◌>>=◌, sized_of}
use Rattle.reading.specs.Read.{big_of, group_of, groups_of}
use Rattle.reading.specs.Place.{span_of}

-- k elements from index at
abbrev pub list_at : ℕ → ℕ → List ℕ → List ℕ
list_at zero at s = []
list_at (suc k) at s = get_or s at 0 ∷ list_at k (suc at) s

take_at : (k at : ℕ) (s : List ℕ) → at + k ≤ length s → take k (drop at s) ≡ list_at k at s
take_at zero at s h = refl
take_at (suc k) at s h = rw (drop-cons s at 0 (omega arith)) (ap (λ (l : List ℕ). get_or s at 0 ∷ l) (take_at k (suc at) s (omega arith)))

pub big_at : (c : Refusal) (k at : ℕ) (s : List ℕ) → at + k ≤ length s → big_of c k (drop at s) ≡ got (big_from 0 (list_at k at s), drop (at + k) s)
unfolding big_of
big_at c k at s h = rw (le-leb k (length (drop at s)) (rw length-drop (omega arith)), take_at k at s h, drop-drop k at s)

-- what is read of a number so far, and what follows it
abbrev pub scale : ℕ → ℕ → Fit (ℕ × List ℕ) → Fit (ℕ × List ℕ)
scale a m t = t >>= λ (n, r). got (a + m * n, r)

module _ (c : Refusal) (k at : ℕ) (s : List ℕ) where
  pub num_cut : length s ≤ at → groups_of c (suc k) (drop at s) ≡ bad c
  unfolding groups_of
  num_cut h = rw (drop_of_length-le s h)

  pub num_last : at < length s → get_or s at 0 < 128 → groups_of c (suc k) (drop at s) ≡ got (get_or s at 0, drop (at + 1) s)
  unfolding groups_of group_of
  num_last h l = rw (drop-cons s at 0 h, add-one at, lt-ltb (get_or s at 0) 128 l)

  pub num_next : at < length s → 128 ≤ get_or s at 0 → groups_of c (suc k) (drop at s) ≡ scale (get_or s at 0 - 128) 128 (groups_of c k (drop (at + 1) s))
  unfolding groups_of group_of
  num_next h l = rw (drop-cons s at 0 h, add-one at, le-ltb (get_or s at 0) 128 l)

pub scale_scale : (a m b n : ℕ) (t : Fit (ℕ × List ℕ)) → scale a m (scale b n t) ≡ scale (a + b * m) (m * n) t
scale_scale a m b n (got z) = ap (λ (i : ℕ). got (i, z.1)) (omega arith)
scale_scale a m b n (bad k) = refl

pub scale_one : (t : Fit (ℕ × List ℕ)) → scale 0 1 t ≡ t
scale_one (got z) = ap (λ (i : ℕ). got (i, z.1)) (omega arith)
scale_one (bad k) = refl

-- a number l that ends at m, then l bytes: how it goes on once the number is read
module _ {A : Type 0} (n : Reader ℕ) (k : ℕ → List ℕ → Refusal) (q : ℕ → Filler A) (end : ℕ) (s : List ℕ) (at : ℕ) where
  pub sized_bad : (c : Refusal) → n (drop at s) ≡ bad c → sized_of n k q end (drop at s) ≡ bad c
  unfolding sized_of
  sized_bad c e = rw e

  module _ (l m : ℕ) (e : n (drop at s) ≡ got (l, drop m s)) (h : m ≤ length s) where
    pub sized_crossed : length s < m + l → sized_of n k q end (drop at s) ≡ bad (k l (drop m s))
    unfolding sized_of
    sized_crossed o = rw (e, lt-leb l (length (drop m s)) (rw length-drop (omega arith)))

    -- of a slice s that is read to its end, the part ends at m + l
    pub sized_at_lem : m + l ≤ length s → end ≡ length s → sized_of n k q end (drop at s) ≡ (q (m + l) (take l (drop m s)) >>= λ a. got (a, drop (m + l) s))
    unfolding sized_of
    sized_at_lem o i =
        let j : end - length (drop (m + l) s) ≡ m + l = rw length-drop (omega arith) in
        rw (e, le-leb l (length (drop m s)) (rw length-drop (omega arith)), drop-drop l m s, j)

-- ---- spans: l bytes from index m

pub span_at : (s : List ℕ) (l m : ℕ) → m + l ≤ length s → span_of (take l (drop m s)) (m + l) ≡ record { start = m; len = l }
span_at s l m o =
    let n : length (take l (drop m s)) ≡ l = length-take-le l (drop m s) (rw length-drop (omega arith)) in
    let i : m + l - l ≡ m = omega arith in
    rw (n, i)

-- the l bytes from m, as the rest from m of a slice that ends at m + l
pub part_slice : (s : List ℕ) (l m : ℕ) → m + l ≤ length s → take l (drop m s) ≡ drop m (take (m + l) s)
part_slice s l m o = rw (take-add m l s, drop_at (take m s) (take l (drop m s)) m (length-take-le m s (omega arith)))
