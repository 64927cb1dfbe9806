-- What is returned and stored of a refusal, from its row and its values. Assumes nothing.
use mathlib.Core.Path.{◌≡◌, refl}
use mathlib.Core.List.{[], ◌∷◌}
use Prim.Native.Nat.{ℕ}
use Rattle.reading.specs.Refusal.{Refusal, nr, refused_as}
use Rattle.records.specs.AsNumbers.{row_of, values_of}
use Rattle.c_layout.specs.Value.{value_or_zero}
use Rattle.c_tidy.specs.Numbers.{tidy_number, tidy_numbers}

pub refused_number : (k : Refusal) (n : ℕ) → row_of k ≡ tidy_number (refused_as k n)
refused_number (nr k vs) n = refl

pub refused_numbers : (k : Refusal) (n : ℕ) → (0 ∷ value_or_zero (values_of k) 0 ∷ value_or_zero (values_of k) 1 ∷ n ∷ []) ≡ tidy_numbers (refused_as k n)
refused_numbers (nr k vs) n = refl
