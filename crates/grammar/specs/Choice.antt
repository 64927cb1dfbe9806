-- Lookups and tests that compute. Assumes nothing.
use Rattle.std.specs.Prelude.{Bool, true, false, ◌&&◌, ◌||◌, cond, List, [], ◌∷◌, ℕ, eqb}
use Rattle.std.proofs.Math.Option.{Option, none, some}

-- the number is one of the list
abbrev pub is_in : ℕ → List ℕ → Bool
is_in x [] = false
is_in x (y ∷ l) = eqb x y || is_in x l

-- the first entry of the table that has the number
abbrev pub lookup : {A : Type 0} → List (ℕ × A) → ℕ → Option A
lookup [] i = none
lookup (p ∷ ps) i = cond (eqb p.0 i) (some p.1) (lookup ps i)

-- something is there
abbrev pub is_some : {A : Type 0} → Option A → Bool
is_some none = false
is_some (some a) = true

-- the list has no element
abbrev pub is_empty : {A : Type 0} → List A → Bool
is_empty [] = true
is_empty (x ∷ l) = false

-- every element passes the test
abbrev pub all : {A : Type 0} → (A → Bool) → List A → Bool
all t [] = true
all t (a ∷ l) = t a && all t l
