-- The theorems of P4: the number waiting, answers in either order, the smallest free identifier, each refusal exactly when, and what each call leaves.
-- Assumes nothing.
use mathlib.Core.Path.{◌≡◌, refl, sym, ap, ◌∙◌, subst}
use mathlib.Core.Logic.{◌⊎◌, inl, inr}
use mathlib.Core.Bool.{Bool, true, false, cond}
use mathlib.Core.List.{List, [], ◌∷◌}
use Prim.Native.Nat.{ℕ, zero, suc, ◌+◌, ◌-◌, ◌≤◌, ◌<◌}
use native.Mathlib.Nat.{not-suc-le-zero}
use native.Mathlib.Omega.{arith}
use native.Mathlib.Numerals.{add-one}
use borrow.Author.Tests.{eq-eqb, ne_eqb, eqb-true, eqb-false, ltb-true, ltb-false}
use lib.Dec.{eqb, ltb}
use lib.ListN.{length, get_or, set, replicate, length-set, get_or-eq_default}
use lib.Seq.{get_or-set_same, get_or-set_other, set_comm, ext_get_or}
use Rattle.reading.specs.Refusal.{Refusal}
use Rattle.inflight.proofs.Laws.{pubrec_on, pubrec_off}
use Rattle.inflight.specs.Rules.{limit, free, puback, pubrec, pubcomp, Says, granted, in_flight_full, no_claim, freed, moved, refused, not_waiting, Left, left, first_free, claim_for, claimed, wait_of, put, became_of, settled, after_pub_rec, one_if_waits, waiting, Call, claim, pub_ack, pub_rec, pub_comp, other, call, run, one_if_granted, one_if_freed, tally, IsAnswer, acked, received, completed, unasked, Smallest, NoneFree, Due, Became, said, Answers, identifier_of, only}

-- ---- counting

-- one place changes
waiting_set : (t : List ℕ) (i w : ℕ) → i < length t → waiting (set t i w) + one_if_waits (get_or t i 0) ≡ waiting t + one_if_waits w
unfolding waiting
waiting_set [] i w h = absurd (not-suc-le-zero h)
waiting_set (x ∷ t) zero w h = omega arith
waiting_set (x ∷ t) (suc i) w h = let e : waiting (set t i w) + one_if_waits (get_or t i 0) ≡ waiting t + one_if_waits w = waiting_set t i w (omega arith) in omega (arith, e)

-- what a call adds to those that wait, and takes from them
abbrev pub Balanced : List ℕ → Left → Type 0
Balanced t r = waiting r.table + one_if_freed r.says ≡ waiting t + one_if_granted r.says

unchanged : (t : List ℕ) → Balanced t (left t not_waiting)
unchanged t = refl

first_free_free : (t : List ℕ) → get_or t (first_free t) 0 ≡ 0
unfolding first_free
first_free_free [] = refl
first_free_free (zero ∷ t) = refl
first_free_free (suc w ∷ t) = first_free_free t

claim_for_balanced : (w : ℕ) (t : List ℕ) → one_if_waits w ≡ 1 → Balanced t (claim_for w t)
unfolding claim_for
claim_for_balanced w t one = go (ltb (first_free t) (length t)) refl
  where
    go : (b : Bool) → ltb (first_free t) (length t) ≡ b → Balanced t (cond b (left (set t (first_free t) w) (granted (first_free t + 1))) (left t in_flight_full))
    go true e =
        let f : one_if_waits (get_or t (first_free t) 0) ≡ 0 = ap one_if_waits (first_free_free t) in
        omega (arith, waiting_set t (first_free t) w (ltb-true (first_free t) (length t) e), f, one)
    go false e = refl

claimed_balanced : (q : ℕ) (t : List ℕ) → Balanced t (claimed q t)
unfolding claimed
claimed_balanced zero t = refl
claimed_balanced (suc zero) t = claim_for_balanced puback t refl
claimed_balanced (suc (suc q)) t = claim_for_balanced pubrec t refl

-- an identifier that waits for something has a place
has_place : (t : List ℕ) (i k : ℕ) → get_or t i 0 ≡ suc k → i < length t
has_place [] i k e = omega (arith, e)
has_place (x ∷ t) zero k e = omega arith
has_place (x ∷ t) (suc i) k e = let h : i < length t = has_place t i k e in omega (arith, h)

freed_or_moved : (w : ℕ) → one_if_freed (became_of w) + one_if_waits w ≡ 1
unfolding became_of
freed_or_moved zero = refl
freed_or_moved (suc w) = refl

none_granted : (w : ℕ) → one_if_granted (became_of w) ≡ 0
unfolding became_of
none_granted zero = refl
none_granted (suc w) = refl

put_balanced : (k to : ℕ) (t : List ℕ) (n : ℕ) → wait_of t n ≡ suc k → Balanced t (left (put t n to) (became_of to))
unfolding wait_of put
put_balanced k to t zero e = absurd (omega (arith, e))
put_balanced k to t (suc i) e =
    let f : one_if_waits (get_or t i 0) ≡ 1 = ap one_if_waits e in
    omega (arith, waiting_set t i to (has_place t i k e), f, freed_or_moved to, none_granted to)

settled_balanced : (k to : ℕ) (t : List ℕ) (n : ℕ) → Balanced t (settled (suc k) to t n)
unfolding settled
settled_balanced k to t n = go (eqb (wait_of t n) (suc k)) refl
  where
    go : (b : Bool) → eqb (wait_of t n) (suc k) ≡ b → Balanced t (cond b (left (put t n to) (became_of to)) (left t not_waiting))
    go true e = put_balanced k to t n (eqb-true (wait_of t n) (suc k) e)
    go false e = unchanged t

pub call_balanced : (c : Call) (t : List ℕ) → Balanced t (call c t)
unfolding call
call_balanced (claim q) t = claimed_balanced q t
call_balanced (pub_ack n) t = settled_balanced 0 free t n
call_balanced (pub_rec n reason) t = settled_balanced 1 (after_pub_rec reason) t n
call_balanced (pub_comp n) t = settled_balanced 2 free t n
call_balanced (other n) t = unchanged t

-- over any calls from any table: those that wait and answers that freed one are those that waited and claims granted
pub run_balanced : (cs : List Call) (t : List ℕ) → waiting (run cs t) + tally one_if_freed cs t ≡ waiting t + tally one_if_granted cs t
unfolding run tally
run_balanced [] t = refl
run_balanced (c ∷ cs) t =
    let h : waiting (call c t).table + one_if_freed (call c t).says ≡ waiting t + one_if_granted (call c t).says = call_balanced c t in
    let ih : waiting (run cs (call c t).table) + tally one_if_freed cs (call c t).table ≡ waiting (call c t).table + tally one_if_granted cs (call c t).table = run_balanced cs (call c t).table in
    omega (arith, h, ih)

pub none_waiting : (n : ℕ) → waiting (replicate n free) ≡ 0
unfolding waiting
none_waiting zero = refl
none_waiting (suc n) = let e : waiting (replicate n free) ≡ 0 = none_waiting n in omega (arith, e)

-- "Over any calls from a fresh table, the number waiting equals claims granted less answers that freed one."
pub waiting_is : (cs : List Call)
    → waiting (run cs (replicate limit free)) ≡ tally one_if_granted cs (replicate limit free) - tally one_if_freed cs (replicate limit free)
waiting_is cs = omega (arith, run_balanced cs (replicate limit free), none_waiting limit)

-- ---- answers for different identifiers

acts : Bool → List ℕ → ℕ → ℕ → List ℕ
acts true t n w = put t n w
acts false t n w = t

settled_acts : (for to : ℕ) (t : List ℕ) (n : ℕ) → (settled for to t n).table ≡ acts (eqb (wait_of t n) for) t n to
unfolding settled acts
settled_acts for to t n = go (eqb (wait_of t n) for)
  where
    go : (b : Bool) → (cond b (left (put t n to) (became_of to)) (left t not_waiting)).table ≡ acts b t n to
    go true = refl
    go false = refl

put_other : (t : List ℕ) (m n w : ℕ) → (m ≡ n → ⊥) → wait_of (put t m w) n ≡ wait_of t n
unfolding put wait_of
put_other t zero n w h = refl
put_other t (suc i) zero w h = refl
put_other t (suc i) (suc j) w h = get_or-set_other t i j w free (λ e. h (ap suc (sym e)))

put_comm : (t : List ℕ) (m n v w : ℕ) → (m ≡ n → ⊥) → put (put t m v) n w ≡ put (put t n w) m v
unfolding put
put_comm t zero zero v w h = refl
put_comm t zero (suc j) v w h = refl
put_comm t (suc i) zero v w h = refl
put_comm t (suc i) (suc j) v w h = set_comm t i j v w (λ e. h (ap suc e))

acts_other : (b : Bool) (t : List ℕ) (m n w : ℕ) → (m ≡ n → ⊥) → wait_of (acts b t m w) n ≡ wait_of t n
unfolding acts
acts_other true t m n w h = put_other t m n w h
acts_other false t m n w h = refl

acts_comm : (a b : Bool) (t : List ℕ) (m n v w : ℕ) → (m ≡ n → ⊥) → acts b (acts a t m v) n w ≡ acts a (acts b t n w) m v
unfolding acts
acts_comm true true t m n v w h = put_comm t m n v w h
acts_comm true false t m n v w h = refl
acts_comm false true t m n v w h = refl
acts_comm false false t m n v w h = refl

-- what an answer does: if its test of what the identifier waits for holds, the identifier goes on
record Acts (a : Call) (n : ℕ) : Type 0 where
  due : ℕ → Bool
  to : ℕ
  does : (t : List ℕ) → (call a t).table ≡ acts (due (wait_of t n)) t n to

does_nothing : (n : ℕ) → Acts (other n) n
unfolding call acts
does_nothing n = record { due = λ w. false; to = free; does = λ t. refl }

does_settle : (a : Call) (n for to : ℕ) → ((t : List ℕ) → call a t ≡ settled for to t n) → Acts a n
does_settle a n for to e =
    record { due = λ w. eqb w for; to = to; does = λ t. ap (λ (r : Left). r.table) (e t) ∙ settled_acts for to t n }

as_acts : {a : Call} {n : ℕ} → IsAnswer a n → Acts a n
unfolding call
as_acts (acked {n}) = does_settle (pub_ack n) n puback free (λ t. refl)
as_acts (received {n} {reason}) = does_settle (pub_rec n reason) n pubrec (after_pub_rec reason) (λ t. refl)
as_acts (completed {n}) = does_settle (pub_comp n) n pubcomp free (λ t. refl)
as_acts (unasked {n}) = does_nothing n

swap : {a b : Call} {m n : ℕ} → IsAnswer a m → IsAnswer b n → (m ≡ n → ⊥)
    → (t : List ℕ) → (call b (call a t).table).table ≡ (call a (call b t).table).table
swap {a} {b} {m} {n} p q h t =
    y.does (call a t).table
    ∙ ap (λ (u : List ℕ). acts (y.due (wait_of u n)) u n y.to) (x.does t)
    ∙ rw (acts_other (x.due (wait_of t m)) t m n x.to h)
    (acts_comm (x.due (wait_of t m)) (y.due (wait_of t n)) t m n x.to y.to h)
    ∙ ap (λ (w : ℕ). acts (x.due w) (acts (y.due (wait_of t n)) t n y.to) m x.to)
    (sym (acts_other (y.due (wait_of t n)) t n m y.to (λ e. h (sym e))))
    ∙ ap (λ (u : List ℕ). acts (x.due (wait_of u m)) u m x.to) (sym (y.does t))
    ∙ sym (x.does (call b t).table)
  where
    x : Acts a m
    x = as_acts p

    y : Acts b n
    y = as_acts q

-- "Answers for different identifiers, with no claim between, leave the same table whichever comes first."
pub either_first : {a b : Call} {m n : ℕ} → IsAnswer a m → IsAnswer b n → (m ≡ n → ⊥)
    → (t : List ℕ) → run (a ∷ b ∷ []) t ≡ run (b ∷ a ∷ []) t
unfolding run
either_first p q h t = swap p q h t

-- ---- when a claim is granted, and which

taken_before : (t : List ℕ) (i : ℕ) → i < first_free t → get_or t i 0 ≡ 0 → ⊥
unfolding first_free
taken_before [] i h e = not-suc-le-zero h
taken_before (zero ∷ t) i h e = not-suc-le-zero h
taken_before (suc w ∷ t) zero h e = omega (arith, e)
taken_before (suc w ∷ t) (suc i) h e = taken_before t i (omega arith) e

says_granted : {m n : ℕ} → granted m ≡ granted n → m ≡ n
says_granted e = cc

first_smallest : (t : List ℕ) → first_free t < length t → Smallest t (suc (first_free t))
unfolding wait_of
first_smallest t h = record { above = omega arith; within = omega arith; is_free = first_free_free t; least = least }
  where
    least : (m : ℕ) → 0 < m → m < suc (first_free t) → wait_of t m ≡ free → ⊥
    least zero p q e = not-suc-le-zero p
    least (suc m) p q e = taken_before t m (omega arith) e

-- "gives the smallest free identifier"
pub grants_smallest : (w : ℕ) (t : List ℕ) (n : ℕ) → (claim_for w t).says ≡ granted n → Smallest t n
unfolding claim_for
grants_smallest w t n = go (ltb (first_free t) (length t)) refl
  where
    go : (b : Bool) → ltb (first_free t) (length t) ≡ b → (cond b (left (set t (first_free t) w) (granted (first_free t + 1))) (left t in_flight_full)).says ≡ granted n → Smallest t n
    go true p e =
        subst (λ (m : ℕ). Smallest t m) (sym (add-one (first_free t)) ∙ says_granted e) (first_smallest t (ltb-true (first_free t) (length t) p))
    go false p e = let z : ◌≡◌ {A = ℕ} 0 1 = cc in absurd (omega (arith, z))

-- "is refused, InFlightFull, exactly when none is free"
pub full_none : (w : ℕ) (t : List ℕ) → (claim_for w t).says ≡ in_flight_full → NoneFree t
unfolding claim_for wait_of
full_none w t e zero p h q = not-suc-le-zero p
full_none w t e (suc i) p h q = go (ltb (first_free t) (length t)) refl e
  where
    go : (b : Bool) → ltb (first_free t) (length t) ≡ b → (cond b (left (set t (first_free t) w) (granted (first_free t + 1))) (left t in_flight_full)).says ≡ in_flight_full → ⊥
    go true u e = let z : ◌≡◌ {A = ℕ} 0 1 = cc in omega (arith, z)
    go false u e = taken_before t i (let g : length t ≤ first_free t = ltb-false (first_free t) (length t) u in omega (arith, g)) q

pub none_full : (w : ℕ) (t : List ℕ) → NoneFree t → (claim_for w t).says ≡ in_flight_full
unfolding claim_for
none_full w t h = go (ltb (first_free t) (length t)) refl
  where
    go : (b : Bool) → ltb (first_free t) (length t) ≡ b → (cond b (left (set t (first_free t) w) (granted (first_free t + 1))) (left t in_flight_full)).says ≡ in_flight_full
    go true u = let s : Smallest t (suc (first_free t)) = first_smallest t (ltb-true (first_free t) (length t) u) in absurd (h (suc (first_free t)) s.above s.within s.is_free)
    go false u = refl

-- ---- each refusal, exactly when

says_not : {A : Type 0} {s : Says} → s ≡ no_claim → s ≡ in_flight_full → A
says_not e f = let z : ◌≡◌ {A = ℕ} 29 30 = cc in absurd (omega (arith, z))

claim_for_not : {A : Type 0} (w : ℕ) (t : List ℕ) → (claim_for w t).says ≡ no_claim → A
unfolding claim_for
claim_for_not {A} w t = go (ltb (first_free t) (length t))
  where
    go : (b : Bool) → (cond b (left (set t (first_free t) w) (granted (first_free t + 1))) (left t in_flight_full)).says ≡ no_claim → A
    go true e = let z : ◌≡◌ {A = ℕ} 0 1 = cc in absurd (omega (arith, z))
    go false e = says_not e refl

-- "A claim for QoS 0 is always refused, NoClaim", and no other is
pub no_claim_when : (q : ℕ) (t : List ℕ) → ((claimed q t).says ≡ no_claim → q ≡ 0) × (q ≡ 0 → (claimed q t).says ≡ no_claim)
unfolding claimed
no_claim_when zero t = (λ e. refl, λ e. refl)
no_claim_when (suc zero) t = (λ e. claim_for_not puback t e, λ e. absurd (omega (arith, e)))
no_claim_when (suc (suc q)) t = (λ e. claim_for_not pubrec t e, λ e. absurd (omega (arith, e)))

-- "is refused, InFlightFull, exactly when none is free"
pub full_when : (q : ℕ) (t : List ℕ) → 0 < q → ((claimed q t).says ≡ in_flight_full → NoneFree t) × (NoneFree t → (claimed q t).says ≡ in_flight_full)
unfolding claimed
full_when zero t h = absurd (not-suc-le-zero h)
full_when (suc zero) t h = (full_none puback t, none_full puback t)
full_when (suc (suc q)) t h = (full_none pubrec t, none_full pubrec t)

-- "gives the smallest free identifier"
pub granted_smallest : (q : ℕ) (t : List ℕ) (n : ℕ) → (claimed q t).says ≡ granted n → Smallest t n
unfolding claimed
granted_smallest zero t n e = let z : ◌≡◌ {A = ℕ} 0 1 = cc in absurd (omega (arith, z))
granted_smallest (suc zero) t n e = grants_smallest puback t n e
granted_smallest (suc (suc q)) t n e = grants_smallest pubrec t n e

refused_for : (w : ℕ) (t : List ℕ) (k : Refusal) → (claim_for w t).says ≡ refused k → (claim_for w t).table ≡ t
unfolding claim_for
refused_for w t k = go (ltb (first_free t) (length t))
  where
    go : (b : Bool) → (cond b (left (set t (first_free t) w) (granted (first_free t + 1))) (left t in_flight_full)).says ≡ refused k
        → (cond b (left (set t (first_free t) w) (granted (first_free t + 1))) (left t in_flight_full)).table ≡ t
    go true e = let z : ◌≡◌ {A = ℕ} 0 1 = cc in absurd (omega (arith, z))
    go false e = refl

-- "a refused claim changes nothing"
pub refused_claim : (q : ℕ) (t : List ℕ) (k : Refusal) → (claimed q t).says ≡ refused k → (claimed q t).table ≡ t
unfolding claimed
refused_claim zero t k e = refl
refused_claim (suc zero) t k e = refused_for puback t k e
refused_claim (suc (suc q)) t k e = refused_for pubrec t k e

became_not : {A : Type 0} (w : ℕ) → became_of w ≡ not_waiting → A
unfolding became_of
became_not zero e = let z : ◌≡◌ {A = ℕ} 0 1 = cc in absurd (omega (arith, z))
became_not (suc w) e = let z : ◌≡◌ {A = ℕ} 0 1 = cc in absurd (omega (arith, z))

settled_not_when : (for to : ℕ) (t : List ℕ) (n : ℕ)
    → ((settled for to t n).says ≡ not_waiting → wait_of t n ≡ for → ⊥) × ((wait_of t n ≡ for → ⊥) → settled for to t n ≡ left t not_waiting)
unfolding settled
settled_not_when for to t n = (λ e f. became_not to (rw (eq-eqb (wait_of t n) for f) at e), λ h. rw (ne_eqb (wait_of t n) for h))

-- "Any other answer gets NotWaiting and changes nothing": NotWaiting exactly when the identifier does not wait for the answer
pub not_waiting_when : {a : Call} {n : ℕ} → IsAnswer a n → (t : List ℕ)
    → ((call a t).says ≡ not_waiting → Due t a → ⊥) × ((Due t a → ⊥) → call a t ≡ left t not_waiting)
unfolding call
not_waiting_when (acked {n}) t = settled_not_when puback free t n
not_waiting_when (received {n} {reason}) t = settled_not_when pubrec (after_pub_rec reason) t n
not_waiting_when (completed {n}) t = settled_not_when pubcomp free t n
not_waiting_when (unasked {n}) t = (λ e d. d, λ h. refl)

-- "identifier 0 and those above 128 included"
pub outside : (t : List ℕ) (n : ℕ) → (n ≡ 0) ⊎ (length t < n) → wait_of t n ≡ free
unfolding wait_of
outside t zero h = refl
outside t (suc i) (inl e) = absurd (omega (arith, e))
outside t (suc i) (inr h) = get_or-eq_default t free (omega arith)

-- ---- any answers in any order: an identifier's own answers decide

identifier_is : {a : Call} {n : ℕ} → IsAnswer a n → identifier_of a ≡ n
identifier_is acked = refl
identifier_is received = refl
identifier_is completed = refl
identifier_is unasked = refl

-- an answer for another identifier leaves what this one waits for
other_stays : {a : Call} {m : ℕ} → IsAnswer a m → (t : List ℕ) (n : ℕ) → (m ≡ n → ⊥) → wait_of (call a t).table n ≡ wait_of t n
other_stays {a} {m} p t n h =
    ap (λ (u : List ℕ). wait_of u n) ((as_acts p).does t) ∙ acts_other ((as_acts p).due (wait_of t m)) t m n (as_acts p).to h

next_wait : (b : Bool) (t : List ℕ) (n w : ℕ) → 0 < n → n ≤ length t → wait_of (acts b t n w) n ≡ cond b w (wait_of t n)
unfolding acts wait_of put
next_wait b t zero w p h = absurd (not-suc-le-zero p)
next_wait true t (suc i) w p h = get_or-set_same t i w free (omega arith)
next_wait false t (suc i) w p h = refl

-- what an answer does to its own identifier hangs on what that waits for alone
own_step : {a : Call} {n : ℕ} → IsAnswer a n → (t u : List ℕ) → 0 < n → n ≤ length t → n ≤ length u → wait_of t n ≡ wait_of u n
    → wait_of (call a t).table n ≡ wait_of (call a u).table n
own_step {a} {n} p t u z h g e =
    ap (λ (v : List ℕ). wait_of v n) (x.does t)
    ∙ next_wait (x.due (wait_of t n)) t n x.to z h
    ∙ ap (λ (w : ℕ). cond (x.due w) x.to w) e
    ∙ sym (next_wait (x.due (wait_of u n)) u n x.to z g)
    ∙ ap (λ (v : List ℕ). wait_of v n) (sym (x.does u))
  where
    x : Acts a n
    x = as_acts p

acts_length : (b : Bool) (t : List ℕ) (n w : ℕ) → length (acts b t n w) ≡ length t
unfolding acts put
acts_length true t zero w = refl
acts_length true t (suc i) w = length-set t i w
acts_length false t n w = refl

answer_length : {a : Call} {n : ℕ} → IsAnswer a n → (t : List ℕ) → length (call a t).table ≡ length t
answer_length {a} {n} p t =
    ap length ((as_acts p).does t) ∙ acts_length ((as_acts p).due (wait_of t n)) t n (as_acts p).to

run_length : {cs : List Call} → Answers cs → (t : List ℕ) → length (run cs t) ≡ length t
unfolding run
run_length Answers.none t = refl
run_length (Answers.more {a} p v) t = run_length v (call a t).table ∙ answer_length p t

own_more : {a : Call} {m : ℕ} (cs : List Call) → IsAnswer a m → (n : ℕ) → 0 < n
    → ((t u : List ℕ) → n ≤ length t → n ≤ length u → wait_of t n ≡ wait_of u n → wait_of (run cs t) n ≡ wait_of (run (only n cs) u) n)
    → (t u : List ℕ) → n ≤ length t → n ≤ length u → wait_of t n ≡ wait_of u n
    → (b : Bool) → eqb (identifier_of a) n ≡ b → wait_of (run cs (call a t).table) n ≡ wait_of (run (cond b (a ∷ only n cs) (only n cs)) u) n
unfolding run
own_more {a} {m} cs p n z ih t u h g e true q =
    let f : m ≡ n = sym (identifier_is p) ∙ eqb-true (identifier_of a) n q in
    let o : IsAnswer a n = subst (λ (k : ℕ). IsAnswer a k) f p in
    ih (call a t).table (call a u).table (rw (answer_length p t) h) (rw (answer_length p u) g) (own_step o t u z h g e)
own_more {a} {m} cs p n z ih t u h g e false q =
    let f : m ≡ n → ⊥ = λ x. eqb-false (identifier_of a) n q (identifier_is p ∙ x) in
    ih (call a t).table u (rw (answer_length p t) h) g (other_stays p t n f ∙ e)

own_decide : {cs : List Call} → Answers cs → (n : ℕ) → 0 < n → (t u : List ℕ) → n ≤ length t → n ≤ length u → wait_of t n ≡ wait_of u n
    → wait_of (run cs t) n ≡ wait_of (run (only n cs) u) n
unfolding run only
own_decide Answers.none n z t u h g e = e
own_decide (Answers.more {a} {cs = cs} p v) n z t u h g e =
    own_more cs p n z (λ t u h g e. own_decide v n z t u h g e) t u h g e (eqb (identifier_of a) n) refl

wait_ext : (t u : List ℕ) → length t ≡ length u → ((n : ℕ) → 0 < n → n ≤ length t → wait_of t n ≡ wait_of u n) → t ≡ u
unfolding wait_of
wait_ext t u e h = ext_get_or 0 t u e (λ i g. h (suc i) (omega arith) (omega arith))

-- whatever the order, if each identifier's answers keep theirs: the same table
pub same_answers : {cs ds : List Call} → Answers cs → Answers ds → ((n : ℕ) → only n cs ≡ only n ds) → (t : List ℕ) → run cs t ≡ run ds t
same_answers {cs} {ds} v w h t =
    wait_ext (run cs t) (run ds t) (run_length v t ∙ sym (run_length w t))
    (λ n z g.
    let k : n ≤ length t = rw (run_length v t) at g in
    own_decide v n z t t k k refl ∙ ap (λ (es : List Call). wait_of (run es t) n) (h n) ∙ sym (own_decide w n z t t k k refl))

-- ---- what a granted claim and an answer that is due leave: one identifier alone has changed, and to what

-- so the table that is left is fixed
pub became_same : {t u v : List ℕ} {n w : ℕ} → Became t n w u → Became t n w v → u ≡ v
became_same {t} {u} {v} {n} {w} a b = wait_ext u v (a.size ∙ sym b.size) (λ m z h. go m (eqb m n) refl)
  where
    go : (m : ℕ) (b' : Bool) → eqb m n ≡ b' → wait_of u m ≡ wait_of v m
    go m true e = rw (eqb-true m n e) (a.now ∙ sym b.now)
    go m false e = a.others m (eqb-false m n e) ∙ sym (b.others m (eqb-false m n e))

set_became : (t : List ℕ) (i w : ℕ) → i < length t → Became t (suc i) w (set t i w)
unfolding wait_of put
set_became t i w h =
    record { now = get_or-set_same t i w free h; others = λ m f. put_other t (suc i) m w (λ e. f (sym e)); size = length-set t i w }

claim_became : (w : ℕ) (t : List ℕ) (n : ℕ) → (claim_for w t).says ≡ granted n → Became t n w (claim_for w t).table
unfolding claim_for
claim_became w t n = go (ltb (first_free t) (length t)) refl
  where
    go : (b : Bool) → ltb (first_free t) (length t) ≡ b
        → (cond b (left (set t (first_free t) w) (granted (first_free t + 1))) (left t in_flight_full)).says ≡ granted n
        → Became t n w (cond b (left (set t (first_free t) w) (granted (first_free t + 1))) (left t in_flight_full)).table
    go true p e =
        subst (λ (m : ℕ). Became t m w (set t (first_free t) w)) (sym (add-one (first_free t)) ∙ says_granted e)
        (set_became t (first_free t) w (ltb-true (first_free t) (length t) p))
    go false p e = let z : ◌≡◌ {A = ℕ} 0 1 = cc in absurd (omega (arith, z))

-- "A claim for QoS 1": the identifier granted waits for PubAck
pub claim_one : (t : List ℕ) (n : ℕ) → (claimed 1 t).says ≡ granted n → Became t n puback (claimed 1 t).table
unfolding claimed
claim_one t n e = claim_became puback t n e

-- "or 2": it waits for PubRec
pub claim_two : (t : List ℕ) (n : ℕ) → (claimed 2 t).says ≡ granted n → Became t n pubrec (claimed 2 t).table
unfolding claimed
claim_two t n e = claim_became pubrec t n e

-- what a call says, and what its identifier alone waits for then
abbrev pub Leaves : List ℕ → ℕ → Says → ℕ → Left → Type 0
Leaves t n s w r = (r.says ≡ s) × Became t n w r.table

put_became : (t : List ℕ) (n k w : ℕ) → wait_of t n ≡ suc k → Became t n w (put t n w)
unfolding wait_of put
put_became t zero k w e = absurd (omega (arith, e))
put_became t (suc i) k w e = set_became t i w (has_place t i k e)

settled_due : (k to : ℕ) (t : List ℕ) (n : ℕ) → wait_of t n ≡ suc k → Leaves t n (became_of to) to (settled (suc k) to t n)
unfolding settled
settled_due k to t n e = rw (eq-eqb (wait_of t n) (suc k) e) (refl, put_became t n k to e)

-- "A PubAck frees a QoS 1 identifier."
pub puback_frees : (t : List ℕ) (n : ℕ) → wait_of t n ≡ puback → Leaves t n freed free (call (pub_ack n) t)
unfolding call became_of
puback_frees t n e = settled_due 0 free t n e

-- "A PubRec with a reason below 0x80 moves a QoS 2 identifier on to wait for PubComp"
pub pubrec_moves : (t : List ℕ) (n reason : ℕ) → wait_of t n ≡ pubrec → reason ≤ 0x7F → Leaves t n moved pubcomp (call (pub_rec n reason) t)
unfolding call became_of
pubrec_moves t n reason e h = rw (sym (pubrec_on reason (omega (arith, h)))) (settled_due 1 pubcomp t n e)

-- "one at 0x80 or above frees it"
pub pubrec_frees : (t : List ℕ) (n reason : ℕ) → wait_of t n ≡ pubrec → 0x80 ≤ reason → Leaves t n freed free (call (pub_rec n reason) t)
unfolding call became_of
pubrec_frees t n reason e h = rw (sym (pubrec_off reason h)) (settled_due 1 free t n e)

-- PubComp, "which frees it"
pub pubcomp_frees : (t : List ℕ) (n : ℕ) → wait_of t n ≡ pubcomp → Leaves t n freed free (call (pub_comp n) t)
unfolding call became_of
pubcomp_frees t n e = settled_due 2 free t n e

was_free : {t u v : List ℕ} {n w : ℕ} → wait_of t n ≡ free → Became t n w u → Became u n free v → v ≡ t
was_free {t} {u} {v} {n} e a b =
    became_same (record { now = b.now; others = λ m h. b.others m h ∙ a.others m h; size = b.size ∙ a.size }) (record { now = e; others = λ m h. refl; size = refl })

-- "A PubAck frees a QoS 1 identifier": the table is that before the claim
pub one_and_back : (t : List ℕ) (n : ℕ) → (claimed 1 t).says ≡ granted n → run (claim 1 ∷ pub_ack n ∷ []) t ≡ t
unfolding run call
one_and_back t n e =
    let a : Became t n puback (claimed 1 t).table = claim_one t n e in
    was_free (granted_smallest 1 t n e).is_free a (puback_frees (claimed 1 t).table n a.now).1

-- of a QoS 2 identifier, by PubRec and PubComp
pub two_and_back : (t : List ℕ) (n reason : ℕ) → (claimed 2 t).says ≡ granted n → reason ≤ 0x7F → run (claim 2 ∷ pub_rec n reason ∷ pub_comp n ∷ []) t ≡ t
unfolding run call
two_and_back t n reason e h =
    let a : Became t n pubrec (claimed 2 t).table = claim_two t n e in
    let b : Became (claimed 2 t).table n pubcomp (call (pub_rec n reason) (claimed 2 t).table).table = (pubrec_moves (claimed 2 t).table n reason a.now h).1 in
    let c : Became (call (pub_rec n reason) (claimed 2 t).table).table n free (call (pub_comp n) (call (pub_rec n reason) (claimed 2 t).table).table).table =
    (pubcomp_frees (call (pub_rec n reason) (claimed 2 t).table).table n b.now).1 in
    was_free (granted_smallest 2 t n e).is_free (record { now = b.now; others = λ m f. b.others m f ∙ a.others m f; size = b.size ∙ a.size }) c

-- or by a PubRec that refuses it
pub two_refused : (t : List ℕ) (n reason : ℕ) → (claimed 2 t).says ≡ granted n → 0x80 ≤ reason → run (claim 2 ∷ pub_rec n reason ∷ []) t ≡ t
unfolding run call
two_refused t n reason e h =
    let a : Became t n pubrec (claimed 2 t).table = claim_two t n e in
    was_free (granted_smallest 2 t n e).is_free a (pubrec_frees (claimed 2 t).table n reason a.now h).1

-- one of QoS 1 and two of QoS 2 are claimed, answered in another order, and one is claimed again
abbrev pub some_calls : List Call
some_calls =
    claim 1 ∷ claim 2 ∷ claim 2 ∷ pub_rec 3 0x80 ∷ pub_rec 2 0x10 ∷ pub_ack 2 ∷ claim 2 ∷ pub_rec 3 0 ∷ pub_comp 2 ∷ pub_comp 1 ∷ []

-- from a fresh table: what each says, and what the first three identifiers wait for then
pub worked : (said some_calls (replicate limit free)
    ≡ granted 1 ∷ granted 2 ∷ granted 3 ∷ freed ∷ moved ∷ not_waiting ∷ granted 3 ∷ moved ∷ freed ∷ not_waiting ∷ [])
    × (run some_calls (replicate limit free) ≡ 1 ∷ 0 ∷ 3 ∷ replicate 1021 0)
unfolding said run call claimed claim_for first_free settled after_pub_rec became_of wait_of put
worked = (refl, refl)
