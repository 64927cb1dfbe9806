-- What is stored of a size or a write: bindings/c/ecchjulmina.h, enum ecch_answer_layout. Assumes nothing.
use Rattle.std.specs.Prelude.{List, [], ◌∷◌, ℕ}
use Rattle.reading.specs.Refusal.{nr}
use Rattle.reading.specs.Reader.{Fit, got, bad}
use Rattle.c_layout.specs.Value.{value_or_zero}

-- the size and zeros, or 0 and the refusal's values
abbrev pub answer_numbers : Fit ℕ → List ℕ
answer_numbers (got n) = n ∷ 0 ∷ 0 ∷ []
answer_numbers (bad (nr k vs)) = 0 ∷ value_or_zero vs 0 ∷ value_or_zero vs 1 ∷ []
