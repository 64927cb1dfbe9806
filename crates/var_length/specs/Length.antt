-- What the answer of `length` at an index tells where a number cut off is refused with c. Assumes nothing.
use Rattle.std.specs.Prelude.{[], ℕ, ◌+◌, Result, Ok, Err}
use Rattle.reading.specs.Refusal.{Refusal, nr}
use Rattle.reading.specs.Reader.{Fit, got, bad}
use Rattle.var_length.specs.declared.LengthError.{LengthError}
use Rattle.var_length.specs.declared.LengthError.TheVariants.{Cut, Long}

-- 01, row 2, and row 1 in the header or row 7 in a frame (D3)
abbrev pub told_length : Refusal → ℕ → Result (ℕ × ℕ) LengthError → Fit (ℕ × ℕ)
told_length c at (Ok (n, count)) = got (n, at + count)
told_length c at (Err Cut) = bad c
told_length c at (Err Long) = bad (nr 2 [])
