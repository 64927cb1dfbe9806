-- What was put into the output. Assumes nothing.
use Rattle.std.specs.Prelude.{◌≡◌, ℕ, ◌-◌, ◌≤◌, List, length}
use Rattle.std.proofs.lemmas.List.Edits.{sets}

-- where the next place lies within the output, w stands whole before it, and no other byte was changed
abbrev pub StandsBefore : List ℕ → List ℕ → List ℕ → ℕ → Type 0
StandsBefore before w after next = next ≤ length before → (length w ≤ next) × (after ≡ sets before (next - length w) w)
