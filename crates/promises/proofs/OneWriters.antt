-- The answers on the way to a write: a test, and numbers that may be absent. Assumes nothing.
use Rattle.std.specs.Prelude as std
use Rattle.std.specs.Prelude.{Some, None, Ok}
use mathlib.Core.Path.{◌≡◌, refl}
use mathlib.Core.Option.{Option, none, some}
use Prim.Native.Nat.{ℕ}
use Rattle.records.specs.AsNumbers.{number_if}
use Rattle.write_tests.specs.Tested.{told_tested}
use Rattle.promises.specs.OneResult.{OneResult}
use Rattle.promises.proofs.OneLaws.{one_by, one_told}

pub tested_same : OneResult told_tested
tested_same = one_told (λ u. u) Ok (λ u. refl)

-- back to an answer that is absent or a number
abbrev pub back_number : {R : Type 0} → R → (ℕ → R) → Option ℕ → R
back_number absent present none = absent
back_number absent present (some n) = present n

pub back_number_lem : (v : std.Option ℕ) → back_number None Some (number_if v) ≡ v
back_number_lem None = refl
back_number_lem (Some n) = refl

-- of any width
pub number_if_same : OneResult number_if
number_if_same = one_by number_if (back_number None Some) back_number_lem
