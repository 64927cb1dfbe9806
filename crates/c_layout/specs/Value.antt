-- Single values as numbers. Assumes nothing.
use Rattle.std.specs.Prelude.{List, ℕ, get_or, Option, Some, None, Result, Ok, Err}
use Rattle.reading.specs.Refusal.{nr}
use Rattle.reading.specs.Reader.{Fit, got, bad}
use Rattle.records.specs.AsNumbers.{row_of, told_error}
use Rattle.records.specs.declared.error.Error.{Error}

-- header: "the refusal's values; 0 where it has none"
abbrev pub value_or_zero : List ℕ → ℕ → ℕ
value_or_zero vs i = get_or vs i 0

-- header: "0, or 21 if there is none"; of any answer: 0, or the refusal's number
abbrev pub fit_number : {A : Type 0} → Fit A → ℕ
fit_number (got a) = 0
fit_number (bad (nr k vs)) = k

-- the same of an answer before it is told
abbrev pub answered_number : {T : Type 0} → Result T Error → ℕ
answered_number (Ok x) = 0
answered_number (Err e) = row_of (told_error e)

-- header: "0, or 21 if there is none"
abbrev pub item_number : {T : Type 0} → Option T → ℕ
item_number (Some x) = 0
item_number None = 21
