-- A client's life keeps the premise of the theorems: its area has lived, and its table is one under the limit.
-- Assumes nothing.
use mathlib.Core.Path.{◌≡◌, refl, ◌∙◌, subst}
use mathlib.Core.Logic.{◌⊎◌, inl}
use mathlib.Core.Bool.{Bool, true, false, cond}
use mathlib.Core.List.{List, [], ◌∷◌}
use Prim.Native.Nat.{ℕ, zero, suc, ◌+◌, ◌<◌, ◌≤◌}
use native.Mathlib.Omega.{arith}
use lib.Dec.{eqb, ltb}
use lib.ListN.{length, get_or, set, replicate, length-set, length-replicate}
use Rattle.inflight.specs.Rules as rules
use Rattle.inflight.specs.Rules.{free, Call, call, claim_for, claimed, settled, put, after_pub_rec, wait_of, first_free}
use Rattle.journal.specs.Block.{each, wait_in, table_in}
use Rattle.journal.specs.Area.{recover, recovered}
use Rattle.journal.specs.First.{block_at, First}
use Rattle.journal.specs.History.{Table, next, Lived, Life, Stop, between, during}
use Rattle.journal.proofs.Bytes.{length_each}
use Rattle.journal.proofs.First.{recovers_first}
use Rattle.journal.proofs.Theorems.{save_lives, cut_recovers}
use Rattle.journal.proofs.Turns.{wait_small}

-- ---- tables

fresh_small : (l i : ℕ) → get_or (replicate l free) i 0 < 4
fresh_small zero i = omega arith
fresh_small (suc l) zero = omega arith
fresh_small (suc l) (suc i) = fresh_small l i

pub fresh_table : (l : ℕ) → Table l (replicate l free)
fresh_table l = record { long = length-replicate {A = ℕ} l free; states = fresh_small l }

set_small : (t : List ℕ) (i w : ℕ) → ((j : ℕ) → get_or t j 0 < 4) → w < 4 → (j : ℕ) → get_or (set t i w) j 0 < 4
set_small [] i w h g j = omega arith
set_small (x ∷ t) zero w h g zero = g
set_small (x ∷ t) zero w h g (suc j) = h (suc j)
set_small (x ∷ t) (suc i) w h g zero = h zero
set_small (x ∷ t) (suc i) w h g (suc j) = set_small t i w (λ n. h (suc n)) g j

set_table : {l : ℕ} {t : List ℕ} (i w : ℕ) → Table l t → w < 4 → Table l (set t i w)
set_table {l} {t} i w f g = record { long = length-set t i w ∙ f.long; states = set_small t i w f.states g }

claim_table : {l : ℕ} {t : List ℕ} (w : ℕ) → w < 4 → Table l t → Table l (claim_for w t).table
unfolding claim_for
claim_table {l} {t} w g f = go (ltb (first_free t) (length t))
  where
    go : (x : Bool) → Table l (cond x (rules.left (set t (first_free t) w) (rules.granted (first_free t + 1))) (rules.left t rules.in_flight_full)).table
    go true = set_table (first_free t) w f g
    go false = f

put_table : {l : ℕ} {t : List ℕ} (n w : ℕ) → w < 4 → Table l t → Table l (put t n w)
unfolding put
put_table zero w g f = f
put_table (suc i) w g f = set_table i w f g

settled_table : {l : ℕ} {t : List ℕ} (for to n : ℕ) → to < 4 → Table l t → Table l (settled for to t n).table
unfolding settled
settled_table {l} {t} for to n g f = go (eqb (wait_of t n) for)
  where
    go : (x : Bool) → Table l (cond x (rules.left (put t n to) (rules.became_of to)) (rules.left t rules.not_waiting)).table
    go true = put_table n to g f
    go false = f

after_small : (reason : ℕ) → after_pub_rec reason < 4
unfolding after_pub_rec
after_small reason = go (ltb reason 0x80)
  where
    go : (x : Bool) → cond x rules.pubcomp free < 4
    go true = omega arith
    go false = omega arith

-- a call leaves a table under the limit
pub call_table : {l : ℕ} {t : List ℕ} (c : Call) → Table l t → Table l (call c t).table
unfolding call claimed
call_table (Call.claim zero) f = f
call_table (Call.claim (suc zero)) f = claim_table rules.puback (omega arith) f
call_table (Call.claim (suc (suc q))) f = claim_table rules.pubrec (omega arith) f
call_table (Call.pub_ack n) f = settled_table rules.puback free n (omega arith) f
call_table (Call.pub_rec n reason) f = settled_table rules.pubrec (after_pub_rec reason) n (after_small reason) f
call_table (Call.pub_comp n) f = settled_table rules.pubcomp free n (omega arith) f
call_table (Call.other n) f = f

each_below : (f : ℕ → ℕ) → ((i : ℕ) → f i < 4) → (i n k : ℕ) → get_or (each f i n) k 0 < 4
unfolding each
each_below f h i zero k = omega arith
each_below f h i (suc n) zero = h i
each_below f h i (suc n) (suc k) = each_below f h (suc i) n k

table_in_lem : (l : ℕ) (b : List ℕ) → Table l (table_in l b)
unfolding table_in
table_in_lem l b = record { long = length_each (wait_in b) 0 l; states = each_below (wait_in b) (wait_small b) 0 l }

-- a recovery gives one
pub recovered_table : (a : List ℕ) {l n : ℕ} {t : List ℕ} → recover l a ≡ recovered n t → Table l t
recovered_table a {l} {n} {t} e = let f : First l a n t = recovers_first l a n t e in subst (Table l) f.table (table_in_lem l (block_at a f.at))

-- ---- a life

module _ (l r k : ℕ) (two : 2 ≤ k) (low : l ≤ r) (high : r ≤ 1024) where
  pub life_table : {a t : List ℕ} {s g f : ℕ} → Life l r k a t s g f → Table l t
  life_table Life.begun = fresh_table l
  life_table (Life.taken {a} v e) = recovered_table a e
  life_table (Life.called c v) = call_table c (life_table v)
  life_table (Life.kept v) = life_table v
  life_table (Life.back {a} {b} v c e) = recovered_table b e
  life_table (Life.anew v c e) = fresh_table l

  stop_lives : {a b : List ℕ} (t : List ℕ) → Lived l r k a → Table l t → Stop l r k a t b → Lived l r k b
  stop_lives t v f between = v
  stop_lives t v f (during h c) = Lived.cut t v f h c

  -- what a life goes through, the area has lived: each theorem over `Lived` is one of it
  pub life_lived : {a t : List ℕ} {s g f : ℕ} → Life l r k a t s g f → Lived l r k a
  life_lived Life.begun = Lived.started
  life_lived (Life.taken v e) = v
  life_lived (Life.called c v) = life_lived v
  life_lived (Life.kept {a} {t} v) = save_lives l r k two low high t (life_lived v) (life_table v)
  life_lived (Life.back {a} {b} {t} v c e) = stop_lives t (life_lived v) (life_table v) c
  life_lived (Life.anew {a} {b} {t} v c e) = stop_lives t (life_lived v) (life_table v) c

  -- when the power goes in a life, recovery gives what it would have given before, or the table that was being saved
  pub life_recovers : {a b t : List ℕ} {s g f : ℕ} → Life l r k a t s g f → Stop l r k a t b
      → (recover l b ≡ recover l a) ⊎ (recover l b ≡ recovered (next l a) t)
  life_recovers v between = inl refl
  life_recovers {a} {b} {t} v (during h c) = cut_recovers l r k two low high t (life_lived v) (life_table v) h c
