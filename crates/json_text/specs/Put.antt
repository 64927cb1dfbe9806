-- What was put into an output, and where it goes on. Assumes nothing.
use Rattle.std.specs.Prelude.{◌≡◌, cond, List, ℕ, ◌+◌, leb, length}
use Rattle.std.proofs.lemmas.List.Edits.{sets}

-- the index n of an output with so much room, its end included; else one that no output has
unfoldable pub end_in : ℕ → ℕ → ℕ
end_in room n = cond (leb n room) n 18446744073709551615

-- xs stand from `at` on, as far as there is room, no other byte was changed, and `next` is the index behind them, if they stand there whole
pub record PutIn (before : List ℕ) (at : ℕ) (xs after : List ℕ) (next : ℕ) : Type 0 where
  pub stores : after ≡ sets before at xs
  pub behind : next ≡ end_in (length before) (at + length xs)
