-- What the measured loops add up. Assumes nothing.
use Rattle.std.specs.Prelude.{ℕ, ◌+◌, ◌%◌, ◌^◌}
use Rattle.reading.specs.Reader.{Fit, got, bad}

-- a sum in 64 bits
abbrev pub wrapped : ℕ → ℕ → ℕ
wrapped a b = (a + b) % 2 ^ 64

-- the number, or 0 where it is refused
abbrev pub or_zero : Fit ℕ → ℕ
or_zero (got n) = n
or_zero (bad k) = 0
