-- What is stored of a refusal, from its values. Assumes nothing.
use mathlib.Core.Path.{◌≡◌, refl}
use mathlib.Core.List.{[], ◌∷◌}
use Rattle.reading.specs.Refusal.{Refusal, nr}
use Rattle.reading.specs.Reader.{bad}
use Rattle.records.specs.AsNumbers.{values_of}
use Rattle.c_layout.specs.Value.{value_or_zero}
use Rattle.c_layout.specs.Answer.{answer_numbers}

pub bad_numbers_lem : (k : Refusal) → 0 ∷ value_or_zero (values_of k) 0 ∷ value_or_zero (values_of k) 1 ∷ [] ≡ answer_numbers (bad k)
bad_numbers_lem (nr k vs) = refl
