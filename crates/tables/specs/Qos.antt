-- A number as a quality of service, and what the answer tells. Assumes nothing.
use Rattle.std.specs.Prelude.{[], ◌∷◌, ℕ, ltb, Result}
use Rattle.reading.specs.Refusal.{nr}
use Rattle.reading.specs.Reader.{Fit, got, ◌>>◌, guard}
use Rattle.records.specs.AsNumbers.{told_qos, told_by}
use Rattle.records.specs.declared.qos.QoS.{QoS}
use Rattle.records.specs.declared.error.Error.{Error}

-- the quality of service as its number, or the refusal
abbrev pub told_got_qos : Result QoS Error → Fit ℕ
told_got_qos = told_by (λ q. told_qos q)

-- the crate: 0, 1 and 2 are; 01, row 11, for any other number
abbrev pub qos_of : ℕ → Fit ℕ
qos_of n = do
  guard (ltb n 3) (nr 11 (n ∷ []))
  got n
