-- What is put into an output, and the index behind it. Assumes nothing.
use Rattle.std.specs.Prelude.{◌≡◌, List, ℕ, ◌+◌, min, length}
use Rattle.std.proofs.lemmas.List.Edits.{sets}

-- the bytes xs are stored from `at` on, those that would lie past the end aside, and `next` is the index behind them, the end at most
pub record Behind (before : List ℕ) (at : ℕ) (xs after : List ℕ) (next : ℕ) : Type 0 where
  pub stores : after ≡ sets before at xs
  pub place : next ≡ min (at + length xs) (length after)
