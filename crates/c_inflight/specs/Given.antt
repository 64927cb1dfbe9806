-- What C hands over of P4, the bytes of a table, and what it is answered. Bytes that are no table are refused, and left as they are.
use Rattle.std.specs.Prelude.{◌≡◌, cond, List, [], ◌∷◌, ℕ, eqb, ltb, length, replicate, Result, Ok, Err}
use Rattle.reading.specs.Refusal.{nr}
use Rattle.inflight.specs.Rules.{limit, free, pubcomp, is_table, claimed, call, answer_by, waiting, Says, granted, freed, moved, refused, Left, left}
use Rattle.c_inflight.specs.declared.Refused.{Refused}

-- 39: not a state for each identifier
abbrev pub bad_table : List ℕ → Left
bad_table b = left b (refused (nr 39 []))

-- "the table starts as 128 free places"
unfoldable pub start_given : List ℕ → Left
start_given b = cond (eqb (length b) limit) (left (replicate limit free) freed) (bad_table b)

-- a claim for QoS 0, 1 or 2; 01, row 11 for any other
unfoldable pub claim_given : ℕ → List ℕ → Left
claim_given q b = cond (is_table b) (cond (ltb q 3) (claimed q b) (left b (refused (nr 11 (q ∷ []))))) (bad_table b)

-- an acknowledgement, by the number of its kind
unfoldable pub ack_given : ℕ → ℕ → ℕ → List ℕ → Left
ack_given kind n reason b = cond (is_table b) (call (answer_by kind n reason) b) (bad_table b)

-- 0, or 39 for what is no table
unfoldable pub waiting_number : List ℕ → ℕ
waiting_number b = cond (is_table b) 0 39

-- "the number waiting"
unfoldable pub waiting_value : List ℕ → ℕ
waiting_value b = cond (is_table b) (waiting b) 0

-- what is returned: 0, or the refusal's number
abbrev pub number_of : Says → ℕ
number_of (granted n) = 0
number_of freed = 0
number_of moved = 0
number_of (refused (nr k vs)) = k

-- what is stored: the identifier that was granted, or what the identifier of an answer waits for now
abbrev pub value_of : Says → ℕ
value_of (granted n) = n
value_of freed = free
value_of moved = pubcomp
value_of (refused k) = 0

-- a call that returns `number` and leaves b: what is left of the table
pub record Ends (l : Left) (number : ℕ) (b : List ℕ) : Type 0 where
  pub returned : number ≡ number_of l.says
  pub table : b ≡ l.table

-- the same, with what it stores
pub record Outcomes (l : Left) (number value : ℕ) (b : List ℕ) : Type 0 where
  pub returned : number ≡ number_of l.says
  pub stores : value ≡ value_of l.says
  pub table : b ≡ l.table

-- 01, row 11, then "InFlightFull", "NoClaim", "NotWaiting", and 39
abbrev pub refused_number : Refused → ℕ
refused_number Refused.InvalidQoS = 11
refused_number Refused.InFlightFull = 29
refused_number Refused.NoClaim = 30
refused_number Refused.NotWaiting = 31
refused_number Refused.BadTable = 39

-- what is returned of an outcome
abbrev pub told_number : Result ℕ Refused → ℕ
told_number (Ok v) = 0
told_number (Err e) = refused_number e

-- what is stored of it
abbrev pub told_value : Result ℕ Refused → ℕ
told_value (Ok v) = v
told_value (Err e) = 0
