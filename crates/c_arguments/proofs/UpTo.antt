-- An end within the stream, and one that is not. Assumes nothing.
use mathlib.Core.Path.{◌≡◌}
use mathlib.Core.List.{List}
use Prim.Native.Nat.{ℕ, ◌≤◌, ◌<◌}
use lib.ListN.{length, take}
use borrow.Author.Tests.{le-leb, lt-leb}
use Rattle.reading.specs.Reader.{Fit, bad}
use Rattle.reading.specs.Place.{no_item}
use Rattle.c_arguments.specs.UpTo.{up_to}

module _ {A : Type 0} (f : List ℕ → Fit A) (s : List ℕ) (end : ℕ) where
  pub up_within : end ≤ length s → up_to f s end ≡ f (take end s)
  unfolding up_to
  up_within h = rw (le-leb end (length s) h)

  pub up_outside : length s < end → bad no_item ≡ up_to f s end
  unfolding up_to
  up_outside h = rw (lt-leb end (length s) h)
