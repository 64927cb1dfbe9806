-- How far bytes have been put. Assumes nothing.
use Rattle.std.specs.Prelude.{◌≡◌, List, ℕ, ◌+◌, ◌≤◌, ◌<◌, take}
use Rattle.std.proofs.lemmas.List.Edits.{sets}

-- where the first i bytes of xs stand from `at` on, now the first r do, n at most; of 2w that were left of n, less than w are
pub record Further (before : List ℕ) (at : ℕ) (xs : List ℕ) (i n w : ℕ) (after : List ℕ) (r : ℕ) : Type 0 where
  pub stores : (o : List ℕ) → before ≡ sets o at (take i xs) → after ≡ sets o at (take r xs)
  pub within : r ≤ n
  pub left : n < i + (w + w) → n < r + w
