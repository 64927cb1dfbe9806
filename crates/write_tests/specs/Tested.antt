-- What an answer of a test tells. Assumes nothing.
use Rattle.std.specs.Prelude.{Result}
use Rattle.reading.specs.Reader.{Fit}
use Rattle.records.specs.AsNumbers.{told_by}
use Rattle.records.specs.declared.error.Error.{Error}

-- 01, writing order: fine so far, or the refusal
abbrev pub told_tested : Result (Unit {0}) Error → Fit (Unit {0})
told_tested = told_by (λ u. u)
