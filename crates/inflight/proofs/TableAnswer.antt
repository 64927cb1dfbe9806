-- What answers and tables tell leads back to them: a contract leaves no choice of an answer.
-- Assumes nothing.
use mathlib.Core.Path.{◌≡◌, refl, ap, ap₂}
use mathlib.Core.Bool.{cond}
use mathlib.Core.List.{List, [], ◌∷◌, map}
use Prim.Native.Nat.{ℕ, zero, suc}
use lib.Dec.{eqb}
use Rattle.std.specs.Prelude.{Result, Ok, Err}
use Rattle.reading.specs.Refusal.{nr}
use Rattle.records.proofs.Laws.{injective_by}
use Rattle.inflight.specs.Rules.{Says, granted, freed, moved, refused, Left}
use Rattle.inflight.specs.TableAnswer.{code_of, place_code, waits_of, claim_of, answer_of, after_claim, after_answer}
use Rattle.inflight.specs.declared.Wait.{Wait}
use Rattle.inflight.specs.declared.Place.{Place}
use Rattle.inflight.specs.declared.InFlight.{InFlight}
use Rattle.inflight.specs.declared.ClaimError.{ClaimError}
use Rattle.inflight.specs.declared.Claimed.{Claimed}
use Rattle.inflight.specs.declared.Answer.{Answer}
use Rattle.inflight.specs.declared.NotWaiting.{NotWaiting}
use Rattle.inflight.specs.declared.Answered.{Answered}

back_code : ℕ → Wait
back_code zero = Wait.Free
back_code (suc zero) = Wait.PubAck
back_code (suc (suc zero)) = Wait.PubRec
back_code (suc (suc (suc n))) = Wait.PubComp

back_code_lem : (w : Wait) → back_code (code_of w) ≡ w
unfolding back_code
back_code_lem Wait.Free = refl
back_code_lem Wait.PubAck = refl
back_code_lem Wait.PubRec = refl
back_code_lem Wait.PubComp = refl

pub code_same : {a b : Wait} → code_of a ≡ code_of b → a ≡ b
code_same = injective_by code_of back_code back_code_lem

back_place : ℕ → Place
back_place n = record { wait = back_code n }

back_place_lem : (p : Place) → back_place (place_code p) ≡ p
unfolding back_place
back_place_lem p = ap (λ (w : Wait). record { wait = w }) (back_code_lem p.wait)

back_places : (ps : List Place) → map back_place (map place_code ps) ≡ ps
back_places [] = refl
back_places (p ∷ ps) = ap₂ (λ (q : Place) (qs : List Place). q ∷ qs) (back_place_lem p) (back_places ps)

back_table : List ℕ → InFlight
back_table t = record { places = map back_place t }

back_table_lem : (t : InFlight) → back_table (waits_of t) ≡ t
unfolding back_table waits_of
back_table_lem t = ap (λ (ps : List Place). record { places = ps }) (back_places t.places)

pub table_same : {a b : InFlight} → waits_of a ≡ waits_of b → a ≡ b
table_same = injective_by waits_of back_table back_table_lem

back_claim : Says → Result ℕ ClaimError
back_claim (granted n) = Ok n
back_claim freed = Err ClaimError.NoClaim
back_claim moved = Err ClaimError.NoClaim
back_claim (refused (nr k vs)) = Err (cond (eqb k 29) ClaimError.InFlightFull ClaimError.NoClaim)

back_claim_lem : (c : Result ℕ ClaimError) → back_claim (claim_of c) ≡ c
unfolding back_claim
back_claim_lem (Ok n) = refl
back_claim_lem (Err ClaimError.InFlightFull) = refl
back_claim_lem (Err ClaimError.NoClaim) = refl

back_answer : Says → Result Answer NotWaiting
back_answer (granted n) = Err record {}
back_answer freed = Ok Answer.Freed
back_answer moved = Ok Answer.Moved
back_answer (refused k) = Err record {}

back_answer_lem : (a : Result Answer NotWaiting) → back_answer (answer_of a) ≡ a
unfolding back_answer
back_answer_lem (Ok Answer.Freed) = refl
back_answer_lem (Ok Answer.Moved) = refl
back_answer_lem (Err e) = refl

back_claimed : Left → Claimed
back_claimed r = record { table = back_table r.table; claim = back_claim r.says }

back_claimed_lem : (c : Claimed) → back_claimed (after_claim c) ≡ c
unfolding back_claimed
back_claimed_lem c = ap₂ (λ (t : InFlight) (s : Result ℕ ClaimError). record { table = t; claim = s }) (back_table_lem c.table) (back_claim_lem c.claim)

-- a claim's answer with its table
pub claimed_same : {a b : Claimed} → after_claim a ≡ after_claim b → a ≡ b
claimed_same = injective_by after_claim back_claimed back_claimed_lem

back_answered : Left → Answered
back_answered r = record { table = back_table r.table; answer = back_answer r.says }

back_answered_lem : (a : Answered) → back_answered (after_answer a) ≡ a
unfolding back_answered
back_answered_lem a = ap₂ (λ (t : InFlight) (s : Result Answer NotWaiting). record { table = t; answer = s }) (back_table_lem a.table) (back_answer_lem a.answer)

-- an answer with its table
pub answered_same : {a b : Answered} → after_answer a ≡ after_answer b → a ≡ b
answered_same = injective_by after_answer back_answered back_answered_lem
