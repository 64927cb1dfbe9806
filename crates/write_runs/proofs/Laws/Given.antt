-- A number that is handed over, and what a value is read as. Assumes nothing.
use mathlib.Core.Path.{◌≡◌, refl, ap, ◌∙◌}
use Prim.Native.Nat.{ℕ}
use Rattle.std.specs.Prelude.{Option, Some, None}
use Rattle.writing.specs.Handed.{Given}
use Rattle.write_runs.specs.Given.{given_by, given_one}

-- a number read as itself
pub given_self : (v : Option ℕ) → given_by (λ (n : ℕ). n) v ≡ given_one v
given_self None = refl
given_self (Some n) = refl

-- and what is told of it
pub given_as : {B : Type 0} (h : Given → B) (v : Option ℕ) {x : B} → x ≡ h (given_by (λ (n : ℕ). n) v) → x ≡ h (given_one v)
given_as h v e = e ∙ ap h (given_self v)
