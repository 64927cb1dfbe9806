-- P4 of 02 on lists: a table is the list of what each identifier waits for, from identifier 1 upward, by P11's numbers.
use Rattle.std.specs.Prelude.{◌≡◌, Bool, true, ◌&&◌, cond, List, [], ◌∷◌, ℕ, zero, suc, ◌+◌, ◌<◌, ◌≤◌, eqb, ltb, length, get_or, set}
use Rattle.reading.specs.Refusal.{Refusal, nr}

-- "Identifiers are 1 to 128"; P12, "Raise the identifiers in P4 to 1,024"
abbrev pub limit : ℕ
limit = 1024

-- P11: "free 0, PubAck 1, PubRec 2, PubComp 3"
abbrev pub free : ℕ
free = 0

abbrev pub puback : ℕ
puback = 1

abbrev pub pubrec : ℕ
pubrec = 2

abbrev pub pubcomp : ℕ
pubcomp = 3

-- what a call says: of a claim the identifier, of an answer what became of its identifier, or a refusal by its number
pub data Says : Type 0 where
  granted : ℕ → Says
  freed : Says
  moved : Says
  refused : Refusal → Says

-- "InFlightFull", "NoClaim", "NotWaiting"
abbrev pub in_flight_full : Says
in_flight_full = refused (nr 29 [])

abbrev pub no_claim : Says
no_claim = refused (nr 30 [])

abbrev pub not_waiting : Says
not_waiting = refused (nr 31 [])

-- "each call hands back the table it leaves behind"
pub record Left : Type 0 where
  pub table : List ℕ
  pub says : Says

abbrev pub left : List ℕ → Says → Left
left t s = record { table = t; says = s }

-- ---- claims

-- how many places stand before "the smallest free identifier"
unfoldable pub first_free : List ℕ → ℕ
first_free [] = 0
first_free (zero ∷ t) = 0
first_free (suc w ∷ t) = suc (first_free t)

-- "gives the smallest free identifier and is refused, InFlightFull, exactly when none is free"; "a refused claim changes nothing"
unfoldable pub claim_for : ℕ → List ℕ → Left
claim_for w t = cond (ltb (first_free t) (length t)) (left (set t (first_free t) w) (granted (first_free t + 1))) (left t in_flight_full)

-- "A claim for QoS 0 is always refused, NoClaim"; QoS 1 waits for PubAck, QoS 2 for PubRec
unfoldable pub claimed : ℕ → List ℕ → Left
claimed zero t = left t no_claim
claimed (suc zero) t = claim_for puback t
claimed (suc (suc q)) t = claim_for pubrec t

-- ---- answers

-- what an identifier waits for; nothing, "identifier 0 and those above 128 included"
unfoldable pub wait_of : List ℕ → ℕ → ℕ
wait_of t zero = free
wait_of t (suc i) = get_or t i free

unfoldable pub put : List ℕ → ℕ → ℕ → List ℕ
put t zero w = t
put t (suc i) w = set t i w

unfoldable pub became_of : ℕ → Says
became_of zero = freed
became_of (suc w) = moved

-- an identifier that waits for the answer goes on to `to`; "any other answer gets NotWaiting and changes nothing"
unfoldable pub settled : ℕ → ℕ → List ℕ → ℕ → Left
settled for to t n = cond (eqb (wait_of t n) for) (left (put t n to) (became_of to)) (left t not_waiting)

-- "A PubRec with a reason below 0x80 moves a QoS 2 identifier on to wait for PubComp ..; one at 0x80 or above frees it"
unfoldable pub after_pub_rec : ℕ → ℕ
after_pub_rec reason = cond (ltb reason 0x80) pubcomp free

-- "the number waiting"
abbrev pub one_if_waits : ℕ → ℕ
one_if_waits zero = 0
one_if_waits (suc w) = 1

unfoldable pub waiting : List ℕ → ℕ
waiting [] = 0
waiting (w ∷ t) = one_if_waits w + waiting t

-- ---- a table as bytes

-- each is "free 0, PubAck 1, PubRec 2, PubComp 3"
unfoldable pub all_states : List ℕ → Bool
all_states [] = true
all_states (w ∷ t) = ltb w 4 && all_states t

-- a state for each identifier
unfoldable pub is_table : List ℕ → Bool
is_table t = eqb (length t) limit && all_states t

-- ---- any call

pub data Call : Type 0 where
  claim : ℕ → Call  -- QoS
  pub_ack : ℕ → Call  -- identifier
  pub_rec : ℕ → ℕ → Call  -- identifier, reason
  pub_comp : ℕ → Call  -- identifier
  other : ℕ → Call  -- identifier of an answer of another kind

unfoldable pub call : Call → List ℕ → Left
call (claim q) t = claimed q t
call (pub_ack n) t = settled puback free t n
call (pub_rec n reason) t = settled pubrec (after_pub_rec reason) t n
call (pub_comp n) t = settled pubcomp free t n
call (other n) t = left t not_waiting

-- a packet that was read, by the number of its kind: "A PubAck", "A PubRec", "PubComp", "any other answer"
unfoldable pub answer_by : ℕ → ℕ → ℕ → Call
answer_by kind n reason = cond (eqb kind 4) (pub_ack n) (cond (eqb kind 5) (pub_rec n reason) (cond (eqb kind 7) (pub_comp n) (other n)))

-- ---- any calls

-- the table that calls leave behind
unfoldable pub run : List Call → List ℕ → List ℕ
run [] t = t
run (c ∷ cs) t = run cs (call c t).table

-- what they say, in turn
unfoldable pub said : List Call → List ℕ → List Says
said [] t = []
said (c ∷ cs) t = (call c t).says ∷ said cs (call c t).table

abbrev pub one_if_granted : Says → ℕ
one_if_granted (granted n) = 1
one_if_granted freed = 0
one_if_granted moved = 0
one_if_granted (refused k) = 0

abbrev pub one_if_freed : Says → ℕ
one_if_freed (granted n) = 0
one_if_freed freed = 1
one_if_freed moved = 0
one_if_freed (refused k) = 0

-- "claims granted"; "answers that freed one"
unfoldable pub tally : (Says → ℕ) → List Call → List ℕ → ℕ
tally f [] t = 0
tally f (c ∷ cs) t = f (call c t).says + tally f cs (call c t).table

-- the identifier that an answer is for; a claim is no answer
pub data IsAnswer : Call → ℕ → Type 0 where
  acked : {n : ℕ} → IsAnswer (pub_ack n) n
  received : {n reason : ℕ} → IsAnswer (pub_rec n reason) n
  completed : {n : ℕ} → IsAnswer (pub_comp n) n
  unasked : {n : ℕ} → IsAnswer (other n) n

-- ---- when

-- "the smallest free identifier"
pub record Smallest (t : List ℕ) (n : ℕ) : Type 0 where
  pub above : 0 < n
  pub within : n ≤ length t
  pub is_free : wait_of t n ≡ free
  pub least : (m : ℕ) → 0 < m → m < n → wait_of t m ≡ free → ⊥

-- "none is free"
abbrev pub NoneFree : List ℕ → Type 0
NoneFree t = (n : ℕ) → 0 < n → n ≤ length t → wait_of t n ≡ free → ⊥

-- the answer that an identifier waits for, by its kind
abbrev pub Due : List ℕ → Call → Type 0
Due t (claim q) = ⊥
Due t (pub_ack n) = wait_of t n ≡ puback
Due t (pub_rec n reason) = wait_of t n ≡ pubrec
Due t (pub_comp n) = wait_of t n ≡ pubcomp
Due t (other n) = ⊥

-- what identifier n waits for has become w, and nothing else has changed
pub record Became (t : List ℕ) (n w : ℕ) (u : List ℕ) : Type 0 where
  pub now : wait_of u n ≡ w
  pub others : (m : ℕ) → (m ≡ n → ⊥) → wait_of u m ≡ wait_of t m
  pub size : length u ≡ length t

-- answers alone, "with no claim between"
pub data Answers : List Call → Type 0 where
  none : Answers []
  more : {a : Call} {n : ℕ} {cs : List Call} → IsAnswer a n → Answers cs → Answers (a ∷ cs)

abbrev pub identifier_of : Call → ℕ
identifier_of (claim q) = 0
identifier_of (pub_ack n) = n
identifier_of (pub_rec n reason) = n
identifier_of (pub_comp n) = n
identifier_of (other n) = n

-- the calls for one identifier, in their order
unfoldable pub only : ℕ → List Call → List Call
only n [] = []
only n (c ∷ cs) = cond (eqb (identifier_of c) n) (c ∷ only n cs) (only n cs)
