-- What an answer on a number tells: the value and the index after it, or 01's number and values of the refusal. Assumes nothing.
use Rattle.std.specs.Prelude.{ℕ, Result}
use Rattle.reading.specs.Reader.{Fit}
use Rattle.records.specs.AsNumbers.{told_by}
use Rattle.records.specs.declared.error.Error.{Error}

-- 01, grammar: a number of any width, and the index after it; or the refusal
abbrev pub told_got_number : Result (ℕ × ℕ) Error → Fit (ℕ × ℕ)
told_got_number = told_by (λ z. z)
