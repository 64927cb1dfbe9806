-- The bytes that are put of a filter: of a text that does not fit nothing. Assumes nothing.
use Rattle.std.specs.Prelude.{List, [], ◌∷◌, ◌++◌, ℕ, ◌%◌}
use Rattle.write_strings.specs.Fitting.{fit_string}

-- 01, "What must change shape": "an options byte for each filter, bits 6-7 written as 0"
abbrev pub fit_filter : List ℕ × ℕ → List ℕ
fit_filter f = fit_string f.0 ++ (f.1 % 64 ∷ [])
