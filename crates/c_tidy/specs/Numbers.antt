-- What C is handed of a tidy form: bindings/c/ecchjulmina.h, enum ecch_tidy_layout. Assumes nothing.
use Rattle.std.specs.Prelude.{List, [], ◌∷◌, ℕ}
use Rattle.reading.specs.Refusal.{Answer, accepted, refused}
use Rattle.c_layout.specs.Value.{value_or_zero}

-- header: "0, or the refusal's number"
abbrev pub tidy_number : Answer ℕ → ℕ
tidy_number (accepted size n) = 0
tidy_number (refused k vs n) = k

-- header, enum ecch_tidy_layout: the size and zeros, or 0 and the refusal's values; behind them the bytes taken
abbrev pub tidy_numbers : Answer ℕ → List ℕ
tidy_numbers (accepted size n) = size ∷ 0 ∷ 0 ∷ n ∷ []
tidy_numbers (refused k vs n) = 0 ∷ value_or_zero vs 0 ∷ value_or_zero vs 1 ∷ n ∷ []
