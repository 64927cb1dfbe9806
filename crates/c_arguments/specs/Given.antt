-- What the numbers of C stand for. Assumes nothing.
use Rattle.std.specs.Prelude as std
use Rattle.std.specs.Prelude.{Bool, not, cond, ℕ, eqb, Some, None}
use Rattle.std.proofs.Math.Option.{Option, none, some}

-- header: "A flag that is handed over is false if it is 0, else true"
abbrev pub is_on : ℕ → Bool
is_on n = not (eqb n 0)

-- header: "If `limited` is not 0"
abbrev pub limit_given : ℕ → ℕ → Option ℕ
limit_given l n = cond (eqb l 0) none (some n)

-- header: "`.._on` says whether the value behind it is present", of a number
abbrev pub maybe : ℕ → ℕ → Option ℕ
maybe on n = cond (is_on on) (some n) none

-- the same of a value of any type
abbrev pub given : {T : Type 0} → ℕ → T → std.Option T
given on x = cond (is_on on) (Some x) None
