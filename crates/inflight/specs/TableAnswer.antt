-- What the values of src/lib.rt say in the terms of Rules: "any answer that is an enum has a definition".
use Rattle.std.specs.Prelude.{◌≡◌, List, [], map, ℕ, ◌+◌, ◌≤◌, length, drop, Result, Ok, Err}
use Rattle.reading.specs.Refusal.{nr}
use Rattle.inflight.specs.Rules.{first_free, free, puback, pubrec, pubcomp, Says, granted, freed, moved, refused, Left}
use Rattle.inflight.specs.declared.Wait.{Wait}
use Rattle.inflight.specs.declared.Wait.TheVariants.{Free, PubAck, PubRec, PubComp}
use Rattle.inflight.specs.declared.Place.{Place}
use Rattle.inflight.specs.declared.InFlight.{InFlight}
use Rattle.inflight.specs.declared.ClaimError.{ClaimError}
use Rattle.inflight.specs.declared.ClaimError.TheVariants.{InFlightFull, NoClaim}
use Rattle.inflight.specs.declared.Claimed.{Claimed}
use Rattle.inflight.specs.declared.Answer.{Answer}
use Rattle.inflight.specs.declared.Answer.TheVariants.{Freed, Moved}
use Rattle.inflight.specs.declared.NotWaiting.{NotWaiting}
use Rattle.inflight.specs.declared.Answered.{Answered}

-- P11, "free 0, PubAck 1, PubRec 2, PubComp 3"
abbrev pub code_of : Wait → ℕ
code_of Free = free
code_of PubAck = puback
code_of PubRec = pubrec
code_of PubComp = pubcomp

-- of a place
abbrev pub place_code : Place → ℕ
place_code p = code_of p.wait

-- the place of identifier 1 first
unfoldable pub waits_of : InFlight → List ℕ
waits_of t = map place_code t.places

-- P4: the identifier, "InFlightFull" or "NoClaim"
abbrev pub claim_of : Result ℕ ClaimError → Says
claim_of (Ok n) = granted n
claim_of (Err InFlightFull) = refused (nr 29 [])
claim_of (Err NoClaim) = refused (nr 30 [])

-- P4: freed, moved on to PubComp, or "NotWaiting"
abbrev pub answer_of : Result Answer NotWaiting → Says
answer_of (Ok Freed) = freed
answer_of (Ok Moved) = moved
answer_of (Err e) = refused (nr 31 [])

-- P4: "each call hands back the table it leaves behind"
abbrev pub after_claim : Claimed → Left
after_claim r = record { table = waits_of r.table; says = claim_of r.claim }

-- the same of an answer
abbrev pub after_answer : Answered → Left
after_answer r = record { table = waits_of r.table; says = answer_of r.answer }

-- no place before i is free: what a walk to the first free one knows there
pub record Ahead (t : List ℕ) (i : ℕ) : Type 0 where
  pub within : i ≤ length t
  pub rest : first_free t ≡ i + first_free (drop i t)
