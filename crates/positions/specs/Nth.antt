-- The n-th entry of a run, as a loop that passes the entries holds it. Assumes nothing.
use Rattle.std.specs.Prelude.{cond, ℕ, eqb}
use Rattle.reading.specs.Reader.{Fit, got, Reader, Filler, ◌>>=◌}
use Rattle.reading.specs.Read.{some_fit}
use Rattle.reading.specs.Place.{or_no_item, nth_of}

-- the entry v at its turn, else what was there
abbrev pub chosen : {A : Type 0} → Fit A → A → ℕ → ℕ → Fit A
chosen held v turn n = cond (eqb turn n) (got v) held

-- 01, row 21: the n-th entry of what fills a run, or none
abbrev pub nth_run : {A : Type 0} → Reader A → ℕ → Filler A
nth_run q n s = or_no_item (some_fit q s) >>= nth_of n
