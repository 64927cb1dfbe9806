-- One turn of `put_text`. Assumes nothing.
use Rattle.std.specs.Prelude.{◌≡◌, List, ℕ, ◌-◌, ◌≤◌, ◌<◌, length}
use Rattle.std.proofs.lemmas.List.Edits.{sets}

-- p is put whole from index `at` on, or, where there is no room for it, nothing is
pub record PiecePut (before : List ℕ) (at : ℕ) (p after : List ℕ) (n : ℕ) : Type 0 where
  pub fits : length p ≤ length before - at → (n ≡ length p) × (after ≡ sets before at p)
  pub full : length before - at < length p → (n ≡ 0) × (after ≡ before)
