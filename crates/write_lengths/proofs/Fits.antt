-- A number that fits is put as it is spelled, and one that does not is not put. Assumes nothing.
use mathlib.Core.Path.{◌≡◌}
use mathlib.Core.List.{[]}
use Prim.Native.Nat.{ℕ, ◌≤◌, ◌<◌}
use borrow.Author.Tests.{le-leb, lt-leb}
use Rattle.writing.specs.Size.{most}
use Rattle.writing.specs.Spell.{short}
use Rattle.write_lengths.specs.Fitting.{fit_short}

pub short_fits : (n : ℕ) → n ≤ most → fit_short n ≡ short n
unfolding fit_short
short_fits n h = rw (le-leb n most h)

pub short_not : (n : ℕ) → most < n → fit_short n ≡ []
unfolding fit_short
short_not n h = rw (lt-leb n most h)
