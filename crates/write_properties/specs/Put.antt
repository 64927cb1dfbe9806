-- What is put into an output, and how many bytes it is. Assumes nothing.
use Rattle.std.specs.Prelude.{◌≡◌, List, ℕ, length}
use Rattle.std.proofs.lemmas.List.Edits.{sets}

-- the bytes xs are stored from `at` on, those that would lie past the end aside, and n is their number
pub record Put (before : List ℕ) (at : ℕ) (xs after : List ℕ) (n : ℕ) : Type 0 where
  pub stores : after ≡ sets before at xs
  pub count : n ≡ length xs
