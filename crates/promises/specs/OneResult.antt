-- What it means that a contract leaves no choice of an answer. Assumes nothing.
use Rattle.std.specs.Prelude.{◌≡◌}

-- demand 1: a contract says that the answer tells d, which the input gives; then there is one answer only
abbrev pub OneResult : {A B : Type 0} → (A → B) → Type 0
OneResult {A} {B} told = (d : B) (a b : A) → told a ≡ d → told b ≡ d → a ≡ b
