-- A string that fits is put as it is spelled, and one that does not is not put. Assumes nothing.
use mathlib.Core.Path.{◌≡◌, ap, ◌∙◌}
use mathlib.Core.Logic.{◌⊎◌, inl, inr}
use mathlib.Core.List.{List, []}
use Prim.Native.Nat.{ℕ, ◌+◌, ◌≤◌, ◌<◌}
use native.Mathlib.Omega.{arith}
use borrow.Author.Tests.{le-leb, lt-leb}
use lib.ListN.{length}
use Rattle.writing.specs.Spell.{string}
use Rattle.writing.proofs.Tests.{le_or}
use Rattle.writing.proofs.Sizes.{length_string}
use Rattle.write_strings.specs.Fitting.{fit_string}

pub string_fits : (s : List ℕ) → length s ≤ 65535 → fit_string s ≡ string s
unfolding fit_string
string_fits s h = rw (le-leb (length s) 65535 h)

pub string_not : (s : List ℕ) → 65535 < length s → fit_string s ≡ []
unfolding fit_string
string_not s h = rw (lt-leb (length s) 65535 h)

-- a sum of such lengths cannot wrap
pub string_most : (s : List ℕ) → length (fit_string s) ≤ 2 + length s
string_most s = go (le_or (length s) 65535)
  where
    go : (length s ≤ 65535) ⊎ (65535 < length s) → length (fit_string s) ≤ 2 + length s
    go (inl h) = omega (arith, ap length (string_fits s h) ∙ length_string s)
    go (inr h) = omega (arith, ap length (string_not s h))
