-- Bytes gathered by `|`, the walk to the first free one by sixteens, and the ways that a call of C can end.
-- Assumes nothing.
use mathlib.Core.Path.{◌≡◌, refl, sym, ap, ◌∙◌}
use mathlib.Core.Bool.{Bool, true, false, not, ◌&&◌, cond, false≢true}
use mathlib.Core.List.{List, [], ◌∷◌, ◌++◌}
use Prim.Native.Nat.{ℕ, zero, suc, ◌+◌, ◌-◌, ◌^◌, ◌≤◌, ◌<◌}
use native.Mathlib.Numerals.{add-one}
use native.Mathlib.Omega.{arith}
use borrow.Author.Tests.{eq-eqb, ne_eqb, eqb-false, lt-ltb, le-ltb, le-leb, lt-leb, leb-true, leb-false, ltb-true, ltb-false, not-true}
use lib.Bits.{bit_or, or_lt, or_add_and, and_le_l, and_le_r}
use lib.Dec.{eqb, ltb}
use lib.ListN.{length, get_or, take, drop, set, replicate, length-drop, take-append-drop, drop_of_length-le}
use lib.Seq.{drop-cons, drop-drop}
use Rattle.std.specs.Prelude.{Some, None}
use Rattle.std.specs.List.{position, position_or_len}
use Rattle.std.proofs.lemmas.List.Recursion.{is_position_or_len}
use Rattle.reading.specs.Refusal.{nr}
use Rattle.inflight.specs.Rules.{limit, free, all_states, is_table, first_free, claimed, claim_for, wait_of, put, settled, became_of, after_pub_rec, call, answer_by, waiting, refused, left, Left, not_waiting}
use Rattle.inflight.specs.TableAnswer.{Ahead}
use Rattle.inflight.proofs.Laws.{first_taken, free_or_next, wait_zero, wait_above}
use Rattle.c_inflight.specs.Given.{bad_table, start_given, claim_given, ack_given, waiting_number, waiting_value, number_of, value_of, Ends, Outcomes}

-- ---- bytes gathered by `|`

both : (a b : Bool) → (a && b) ≡ true → (a ≡ true) × (b ≡ true)
both true b e = (refl, e)
both false b e = absurd (false≢true e)

and_assoc : (a b c : Bool) → (a && (b && c)) ≡ ((a && b) && c)
and_assoc true b c = refl
and_assoc false b c = refl

and_last : (a : Bool) → (a && true) ≡ a
and_last true = refl
and_last false = refl

or_below : (k a b : ℕ) → ltb (bit_or a b) (2 ^ k) ≡ (ltb a (2 ^ k) && ltb b (2 ^ k))
or_below k a b = go (ltb a (2 ^ k)) refl (ltb b (2 ^ k)) refl
  where
    go : (p : Bool) → ltb a (2 ^ k) ≡ p → (q : Bool) → ltb b (2 ^ k) ≡ q → ltb (bit_or a b) (2 ^ k) ≡ (ltb a (2 ^ k) && ltb b (2 ^ k))
    go true e true f = rw (e, f) (le-leb (suc (bit_or a b)) (2 ^ k) (or_lt k a b (leb-true (suc a) (2 ^ k) e) (leb-true (suc b) (2 ^ k) f)))
    go true e false f = rw (e, f) (lt-leb (suc (bit_or a b)) (2 ^ k) (omega (arith, leb-false (suc b) (2 ^ k) f, or_add_and a b, and_le_l a b)))
    go false e q f = rw e (lt-leb (suc (bit_or a b)) (2 ^ k) (omega (arith, leb-false (suc a) (2 ^ k) e, or_add_and a b, and_le_r a b)))

-- the bytes before i
pub record Gathered (s : List ℕ) (any i : ℕ) : Type 0 where
  pub within : i ≤ length s
  pub rest : all_states s ≡ (ltb any 4 && all_states (drop i s))

pub gathered_none : (s : List ℕ) → Gathered s 0 0
gathered_none s = record { within = omega arith; rest = refl }

pub gathered_more : {s : List ℕ} {any i : ℕ} → Gathered s any i → i < length s → Gathered s (bit_or any (get_or s i 0)) (i + 1)
unfolding all_states
gathered_more {s} {any} {i} g h = record {
  within = omega arith;
  rest = g.rest
      ∙ (let q : drop i s ≡ get_or s i 0 ∷ drop (suc i) s = drop-cons s i 0 h in ap (λ (u : List ℕ). ltb any 4 && all_states u) q)
      ∙ and_assoc (ltb any 4) (ltb (get_or s i 0) 4) (all_states (drop (suc i) s))
      ∙ rw (add-one, or_below 2 any (get_or s i 0));
}

pub gathered_all : {s : List ℕ} {any i : ℕ} → Gathered s any i → length s ≤ i → ltb any 4 ≡ all_states s
unfolding all_states
gathered_all {s} {any} {i} g h = sym (g.rest ∙ rw (drop_of_length-le s h) (and_last (ltb any 4)))

pub not_long : (s : List ℕ) → (length s ≡ limit → ⊥) → false ≡ is_table s
unfolding is_table
not_long s h = rw (ne_eqb (length s) limit h)

pub as_states : (s : List ℕ) {r : Bool} → length s ≡ limit → r ≡ all_states s → r ≡ is_table s
unfolding is_table
as_states s h e = rw (eq-eqb (length s) limit h) e

-- ---- the first free one

-- no byte before i is free, if no mark was gathered
pub record Passed (s : List ℕ) (any i : ℕ) : Type 0 where
  pub within : i ≤ length s
  pub rest : ltb any 128 ≡ true → (t : List ℕ) → first_free (s ++ t) ≡ i + first_free (drop i s ++ t)

pub passed_none : (s : List ℕ) → Passed s 0 0
passed_none s = record { within = omega arith; rest = λ e t. omega arith }

pub passed_more : {s : List ℕ} {any i : ℕ} (m : ℕ) → Passed s any i → i < length s → ltb m 128 ≡ not (eqb (get_or s i 0) 0) → Passed s (bit_or any m) (i + 1)
passed_more {s} {any} {i} m p h f = record {
  within = omega arith;
  rest = λ e t.
      let b = both (ltb any 128) (ltb m 128) (sym (or_below 7 any m) ∙ e) in
      let n : first_free (get_or s i 0 ∷ (drop (suc i) s ++ t)) ≡ suc (first_free (drop (suc i) s ++ t)) =
      first_taken (get_or s i 0) (drop (suc i) s ++ t) (eqb-false (get_or s i 0) 0 (not-true (eqb (get_or s i 0) 0) (sym f ∙ b.1))) in
      let q : first_free (drop i s ++ t) ≡ suc (first_free (drop (suc i) s ++ t)) = rw (drop-cons s i 0 h) n in
      rw (add-one i) (omega (arith, p.rest b.0 t, q));
}

pub passed_all : {s : List ℕ} {any i k : ℕ} → Passed s any i → length s ≤ i → length s ≡ k → ltb any 128 ≡ true → (t : List ℕ) → first_free (s ++ t) ≡ k + first_free t
passed_all {s} {any} {i} {k} p h l e t =
    let q : first_free (drop i s ++ t) ≡ first_free t = rw (drop_of_length-le s h) in
    omega (arith, p.rest e t, q, p.within, h, l)

-- sixteen bytes that are taken are passed
pub sixteen_on : {s u : List ℕ} {i : ℕ} → Ahead s i → i + 16 ≤ length s → u ≡ take 16 (drop i s) → ((t : List ℕ) → first_free (u ++ t) ≡ 16 + first_free t) → Ahead s (i + 16)
sixteen_on {s} {u} {i} a h e f =
    let q : first_free (drop i s) ≡ 16 + first_free (drop (i + 16) s) =
    ap first_free (sym (take-append-drop 16 (drop i s)) ∙ ap (λ (x : List ℕ). x ++ drop 16 (drop i s)) (sym e)) ∙ f (drop 16 (drop i s))
    ∙ ap (λ (x : List ℕ). 16 + first_free x) (drop-drop 16 i s) in
    record { within = h; rest = omega (arith, a.rest, q) }

zero_is : (s : List ℕ) → first_free s ≡ position_or_len (λ (b : ℕ). eqb b 0) s
unfolding first_free
zero_is = is_position_or_len first_free (λ (b : ℕ). eqb b 0) refl free_or_next

-- the first zero of what is left
pub zero_at : {s u : List ℕ} {from i : ℕ} → Ahead s from → u ≡ drop from s → Some i ≡ position (λ (b : ℕ). eqb b 0) u → (from + i ≡ first_free s) × (from + i < length s)
zero_at {s} {u} {from} {i} a w e = go (ltb n (length u)) refl
  where
    n : ℕ
    n = position_or_len (λ (b : ℕ). eqb b 0) u

    go : (b : Bool) → ltb n (length u) ≡ b → (from + i ≡ first_free s) × (from + i < length s)
    go true q =
        let p : Some i ≡ Some n = e ∙ rw q in
        let p' : i ≡ n = cc in
        let l : n < length u = ltb-true n (length u) q in
        let f : length u ≡ length s - from = ap length w ∙ length-drop from s in
        (omega (arith, p', zero_is u, ap first_free w, a.rest), omega (arith, p', l, f))
    go false q = let p : Some i ≡ None = e ∙ rw q in absurd (let z : ◌≡◌ {A = ℕ} 0 1 = cc in omega (arith, z))

pub zero_none : {s u : List ℕ} {from : ℕ} → Ahead s from → u ≡ drop from s → None ≡ position (λ (b : ℕ). eqb b 0) u → length s ≤ first_free s
zero_none {s} {u} {from} a w e = go (ltb n (length u)) refl
  where
    n : ℕ
    n = position_or_len (λ (b : ℕ). eqb b 0) u

    go : (b : Bool) → ltb n (length u) ≡ b → length s ≤ first_free s
    go true q = let p : None ≡ Some n = e ∙ rw q in absurd (let z : ◌≡◌ {A = ℕ} 0 1 = cc in omega (arith, z))
    go false q =
        let f : length u ≡ length s - from = ap length w ∙ length-drop from s in
        omega (arith, ltb-false n (length u) q, f, zero_is u, ap first_free w, a.rest)

-- ---- the ways to end

pub ends : {l : Left} {number value : ℕ} {b : List ℕ} → Outcomes l number value b → Ends l number b
ends o = record { returned = o.returned; table = o.table }

-- a refusal leaves the table as it was
pub refuses : {l : Left} {b c : List ℕ} (k : ℕ) (vs : List ℕ) → l ≡ left b (refused (nr k vs)) → c ≡ b → Outcomes l k 0 c
refuses k vs e f = rw e (record { returned = refl; stores = refl; table = f })

pub claim_none : (q : ℕ) (b : List ℕ) → is_table b ≡ false → claim_given q b ≡ bad_table b
unfolding claim_given
claim_none q b e = rw e

pub claim_zero : (q : ℕ) (b : List ℕ) → is_table b ≡ true → q ≡ 0 → claim_given q b ≡ left b (refused (nr 30 []))
unfolding claim_given claimed
claim_zero q b e f = rw (e, f)

pub claim_odd : (q : ℕ) (b : List ℕ) → is_table b ≡ true → 3 ≤ q → claim_given q b ≡ left b (refused (nr 11 (q ∷ [])))
unfolding claim_given
claim_odd q b e h = rw (e, le-ltb q 3 h)

claims_for : (q : ℕ) (b : List ℕ) → (q ≡ 0 → ⊥) → q < 3 → claimed q b ≡ claim_for q b
unfolding claimed
claims_for zero b h g = absurd (h refl)
claims_for (suc zero) b h g = refl
claims_for (suc (suc zero)) b h g = refl
claims_for (suc (suc (suc q))) b h g = absurd (omega arith)

pub claim_some : (q : ℕ) (b : List ℕ) {w : ℕ} → is_table b ≡ true → (q ≡ 0 → ⊥) → q < 3 → w ≡ q → claim_for w b ≡ claim_given q b
unfolding claim_given
claim_some q b e h g f = rw (f, e, lt-ltb q 3 g) (sym (claims_for q b h g))

pub granted_ends : (w : ℕ) (b : List ℕ) {i v : ℕ} {c : List ℕ} → i ≡ first_free b → i < length b → v ≡ i + 1 → c ≡ set b i w → Outcomes (claim_for w b) 0 v c
unfolding claim_for
granted_ends w b e h f g =
    let l : first_free b < length b = omega (arith, e) in
    rw (lt-ltb (first_free b) (length b) l) (record { returned = refl; stores = f ∙ ap (λ (j : ℕ). j + 1) e; table = g ∙ ap (λ (j : ℕ). set b j w) e })

pub full_ends : (w : ℕ) (b : List ℕ) {i : ℕ} {c : List ℕ} → i ≡ first_free b → length b ≤ i → c ≡ b → Outcomes (claim_for w b) 29 0 c
unfolding claim_for
full_ends w b e h f =
    let l : length b ≤ first_free b = omega (arith, e) in
    rw (le-ltb (first_free b) (length b) l) (record { returned = refl; stores = refl; table = f })

pub settle_not : (for to n : ℕ) (b : List ℕ) {c : List ℕ} → (wait_of b n ≡ for → ⊥) → c ≡ b → Outcomes (settled for to b n) 31 0 c
unfolding settled
settle_not for to n b h e = rw (ne_eqb (wait_of b n) for h) (record { returned = refl; stores = refl; table = e })

pub settle_zero : (for to n : ℕ) (b : List ℕ) {c : List ℕ} → 0 < for → n ≡ 0 → c ≡ b → Outcomes (settled for to b n) 31 0 c
settle_zero for to n b h e f = settle_not for to n b (λ g. let z : free ≡ wait_of b n = wait_zero b n e in omega (arith, z, g)) f

pub settle_above : (for to n : ℕ) (b : List ℕ) {c : List ℕ} → 0 < for → length b < n → c ≡ b → Outcomes (settled for to b n) 31 0 c
settle_above for to n b h e f = settle_not for to n b (λ g. let z : free ≡ wait_of b n = wait_above b n e in omega (arith, z, g)) f

number_free : (to : ℕ) → 0 ≡ number_of (became_of to)
unfolding became_of
number_free zero = refl
number_free (suc w) = refl

pub settle_due : (for to n : ℕ) (b : List ℕ) {v : ℕ} {c : List ℕ} → wait_of b n ≡ for → v ≡ value_of (became_of to) → c ≡ put b n to → Outcomes (settled for to b n) 0 v c
unfolding settled
settle_due for to n b h e f = rw (eq-eqb (wait_of b n) for h) (record { returned = number_free to; stores = e; table = f })

pub ack_none : (k n r : ℕ) (b : List ℕ) → is_table b ≡ false → ack_given k n r b ≡ bad_table b
unfolding ack_given
ack_none k n r b e = rw e

pub ack_ack : (k n r : ℕ) (b : List ℕ) → is_table b ≡ true → k ≡ 4 → settled 1 0 b n ≡ ack_given k n r b
unfolding ack_given answer_by call
ack_ack k n r b e f = rw (e, f)

pub ack_rec : (k n r : ℕ) (b : List ℕ) {to : ℕ} → is_table b ≡ true → k ≡ 5 → to ≡ after_pub_rec r → settled 2 to b n ≡ ack_given k n r b
unfolding ack_given answer_by call
ack_rec k n r b e f g = rw (e, f, g)

pub ack_comp : (k n r : ℕ) (b : List ℕ) → is_table b ≡ true → k ≡ 7 → settled 3 0 b n ≡ ack_given k n r b
unfolding ack_given answer_by call
ack_comp k n r b e f = rw (e, f)

pub ack_other : (k n r : ℕ) (b : List ℕ) → is_table b ≡ true → (k ≡ 4 → ⊥) → (k ≡ 5 → ⊥) → (k ≡ 7 → ⊥) → ack_given k n r b ≡ left b not_waiting
unfolding ack_given answer_by call
ack_other k n r b e f g h = rw (e, ne_eqb k 4 f, ne_eqb k 5 g, ne_eqb k 7 h)

-- what a PubRec goes on to is what it stores
rec_told : (r : ℕ) → after_pub_rec r ≡ value_of (became_of (after_pub_rec r))
unfolding after_pub_rec became_of
rec_told r = go (ltb r 0x80)
  where
    go : (x : Bool) → cond x 3 0 ≡ value_of (became_of (cond x 3 0))
    go true = refl
    go false = refl

pub rec_due : (r : ℕ) {to : ℕ} → to ≡ after_pub_rec r → to ≡ value_of (became_of to)
rec_due r e = rw e (rec_told r)

-- the same call by another name
pub named : {l m : Left} {number value : ℕ} {b : List ℕ} → Outcomes l number value b → l ≡ m → Outcomes m number value b
named o e = rw (← e) o

pub start_fine : (b : List ℕ) {c : List ℕ} → length b ≡ limit → c ≡ replicate (length b) free → Ends (start_given b) 0 c
unfolding start_given
start_fine b e g = rw (eq-eqb (length b) limit e) (record { returned = refl; table = g ∙ ap (λ (n : ℕ). replicate {A = ℕ} n free) e })

pub start_bad : (b : List ℕ) {c : List ℕ} → (length b ≡ limit → ⊥) → c ≡ b → Ends (start_given b) 39 c
unfolding start_given
start_bad b e g = rw (ne_eqb (length b) limit e) (record { returned = refl; table = g })

pub told_some : (b : List ℕ) {v : ℕ} → is_table b ≡ true → v ≡ waiting b → (0 ≡ waiting_number b) × (v ≡ waiting_value b)
unfolding waiting_number waiting_value
told_some b e f = (rw e, f ∙ rw e)

pub told_none : (b : List ℕ) → is_table b ≡ false → (39 ≡ waiting_number b) × (0 ≡ waiting_value b)
unfolding waiting_number waiting_value
told_none b e = (rw e, rw e)
