-- What is handed over, from the arguments of a function. Assumes nothing.
use Rattle.std.specs.Prelude.{Bool, List, ℕ, Option, Some, None}
use Rattle.std.proofs.Math.Option.{none, some}
use Rattle.writing.specs.Handed.{Run, Given, one, lent, pairs}
use Rattle.records.specs.AsNumbers.{number_if}

-- 01, table of properties: a row of a number of any form, which f reads off the value
abbrev pub given_by : {A : Type 0} → (A → ℕ) → Option A → Given
given_by f None = one none
given_by f (Some x) = one (some (f x))

-- the same, where the value is the number
abbrev pub given_one : Option ℕ → Given
given_one v = one (number_if v)

-- 01, table of properties: text or bytes, if they are on
abbrev pub given_lent : Bool → List ℕ → Given
given_lent on s = lent (record { on = on; bytes = s })

-- 01, "What must change shape": "one run of bytes and a list of lengths"
abbrev pub run : List ℕ → List ℕ → Run
run bytes lengths = record { bytes = bytes; lengths = lengths }

-- 01, table of properties: text pairs
abbrev pub given_pairs : List ℕ → List ℕ → Given
given_pairs bytes lengths = pairs (run bytes lengths)
