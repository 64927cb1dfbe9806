-- The theorems of P11 and P12 over any history of an area: a start, then saves, each done or cut.
-- Assumes nothing.
use mathlib.Core.Path.{◌≡◌, refl, sym, ap, ap₂, ◌∙◌, subst}
use mathlib.Core.Logic.{◌⊎◌, inl, inr}
use mathlib.Core.Bool.{Bool, true, false, cond}
use mathlib.Core.List.{List, [], ◌∷◌, map}
use mathlib.Core.Option.{Option, none, some}
use Prim.Native.Nat.{ℕ, zero, suc, ◌+◌, ◌*◌, ◌-◌, ◌/◌, ◌%◌, ◌^◌, ◌<◌, ◌≤◌}
use native.Mathlib.Omega.{arith}
use borrow.Author.Tests.{eq-eqb, le-leb, eqb-false}
use lib.Arith.{lt_of_le-ne}
use lib.Dec.{eqb}
use lib.ListN.{length, get_or, replicate}
use Rattle.inflight.specs.Rules.{limit, free, call, waiting, one_if_freed, one_if_granted}
use Rattle.inflight.specs.TableAnswer.{waits_of, place_code}
use Rattle.inflight.specs.declared.InFlight.{InFlight}
use Rattle.inflight.specs.declared.Place.{Place}
use Rattle.inflight.proofs.Laws.{waits_length}
use Rattle.inflight.proofs.Theorems.{call_balanced, none_waiting}
use Rattle.journal.specs.Block.{good, number_of, table_in, block_of}
use Rattle.journal.specs.Area.{whole, blocks, count_of, newer, latest, latest_in, highest, stored, Says, journal_empty, journal_ended, recovered, saved, recover, recovered_from, save, save_after, start, left}
use Rattle.journal.specs.History.{Table, widened, next, Cut, Lived, Allows, In, here, later, as_it_was, as_it_should_be, not_good, Life}
use Rattle.journal.proofs.Good.{length_block, number_is_lem, block_good, table_is}
use Rattle.journal.proofs.Kept.{Kept, kept_start, kept_stored, latest_new, latest_old, latest_is, none_at_start}
use Rattle.journal.proofs.Latest.{found, none_good}
use Rattle.journal.proofs.Limits.{good_raised, table_raised}
use Rattle.journal.proofs.Places.{length_blocks}
use Rattle.journal.proofs.Turns.{code_small}

false_true : {A : Type 0} {b : Bool} → b ≡ false → b ≡ true → A
false_true e f = let z : ◌≡◌ {A = ℕ} 0 1 = cc in absurd (omega arith)

saved_number : {m n i j : ℕ} → saved m i ≡ saved n j → m ≡ n
saved_number e = cc

-- what a table of inflight tells is a table
pub told_table_lem : (t : InFlight) → length t.places ≡ limit → Table limit (waits_of t)
unfolding waits_of
told_table_lem t e = record { long = waits_length t ∙ e; states = λ i. small t.places i }
  where
    small : (ps : List Place) (i : ℕ) → get_or (map place_code ps) i 0 < 4
    small [] i = omega arith
    small (p ∷ ps) zero = code_small p.wait
    small (p ∷ ps) (suc i) = small ps i

module _ (l r k : ℕ) (two : 2 ≤ k) (low : l ≤ r) (high : r ≤ 1024) where
  -- what is not good under the higher limit is not good under the lower
  bad_both : (b : List ℕ) → good r b ≡ false → good r b ≡ good l b
  bad_both b e = go (good l b) refl
    where
      go : (x : Bool) → good l b ≡ x → good r b ≡ good l b
      go true f = false_true e (good_raised l r b low high f)
      go false f = e ∙ sym f

  new_good : (n : ℕ) (t : List ℕ) → Table l t → 0 < n → n < 2 ^ 64 → (good l (block_of n t) ≡ true) × (good r (block_of n t) ≡ true)
  new_good n t f p h = (
    block_good l n t p h (omega (arith, f.long)) (omega arith) f.states,
    block_good r n t p h (omega (arith, f.long)) high f.states,
  )

  kept_new : (a t : List ℕ) → Kept l r k a → Table l t → next l a < 2 ^ 64 → Kept l r k (stored a (next l a) (block_of (next l a) t))
  kept_new a t kept f h =
      kept_stored l r k a (block_of (next l a) t) two kept (length_block (next l a) t)
      (λ g. (number_is_lem (next l a) t h, h))
      (let g : (good l (block_of (next l a) t) ≡ true) × (good r (block_of (next l a) t) ≡ true) = new_good (next l a) t f (omega arith) h in g.1 ∙ sym g.0)

  kept_bad : (a b : List ℕ) → Kept l r k a → length b ≡ 512 → good r b ≡ false → Kept l r k (stored a (next l a) b)
  kept_bad a b kept e g =
      kept_stored l r k a b two kept e (λ f. false_true (sym (bad_both b g) ∙ g) f) (bad_both b g)

  kept_cut : (a t b : List ℕ) → Kept l r k a → Table l t → next l a < 2 ^ 64 → Cut l r k a t b → Kept l r k b
  kept_cut a t b kept f h as_it_was = kept
  kept_cut a t b kept f h as_it_should_be = kept_new a t kept f h
  kept_cut a t b kept f h (not_good c e g) = kept_bad a c kept e g

  pub lived_kept : {a : List ℕ} → Lived l r k a → Kept l r k a
  lived_kept Lived.started = kept_start l r k
  lived_kept (Lived.saved {a} t v f h) = kept_new a t (lived_kept v) f h
  lived_kept (Lived.cut {a} {b} t v f h c) = kept_cut a t b (lived_kept v) f h c

  -- ---- recovery

  whole_is : (a : List ℕ) → length a ≡ k * 512 → whole a ≡ true
  unfolding whole
  whole_is a e =
      let p : length a % 512 ≡ 0 = omega (arith, e) in
      let q : 2 ≤ length a / 512 = omega (arith, e) in
      rw (eq-eqb (length a % 512) 0 p, le-leb 2 (length a / 512) q)

  recover_is : (m : ℕ) (a : List ℕ) → length a ≡ k * 512 → recover m a ≡ recovered_from m (latest_in m a)
  unfolding recover
  recover_is m a e = rw (whole_is a e)

  recover_new : (a t : List ℕ) → Kept l r k a → Table l t → next l a < 2 ^ 64
      → recover l (stored a (next l a) (block_of (next l a) t)) ≡ recovered (next l a) t
  unfolding recovered_from
  recover_new a t kept f h =
      recover_is l (stored a (next l a) (block_of (next l a) t)) (kept_new a t kept f h).size
      ∙ ap (recovered_from l)
      (latest_new l r k a (block_of (next l a) t) two kept (length_block (next l a) t) (new_good (next l a) t f (omega arith) h).0 (number_is_lem (next l a) t h))
      ∙ ap₂ (λ (n : ℕ) (u : List ℕ). recovered n u) (number_is_lem (next l a) t h)
      (ap (λ (n : ℕ). table_in n (block_of (next l a) t)) (sym f.long) ∙ table_is (next l a) t (omega (arith, f.long)) f.states)

  recover_old : (a b : List ℕ) → Kept l r k a → length b ≡ 512 → good r b ≡ false → recover l (stored a (next l a) b) ≡ recover l a
  recover_old a b kept e g =
      recover_is l (stored a (next l a) b) (kept_bad a b kept e g).size
      ∙ ap (recovered_from l) (latest_old l r k a b two kept e (sym (bad_both b g) ∙ g))
      ∙ sym (recover_is l a kept.size)

  -- a started area: "JournalEmpty if there was none before"
  pub empty_at_start : recover l (replicate (k * 512) 0) ≡ journal_empty
  unfolding recovered_from
  empty_at_start =
      recover_is l (replicate (k * 512) 0) (kept_start l r k).size
      ∙ ap (recovered_from l)
      (latest_is l k (replicate (k * 512) 0) (kept_start l r k).size
      ∙ none_good l (blocks k (replicate (k * 512) 0)) (λ j h. none_at_start l k j (rw (length_blocks k (replicate (k * 512) 0)) at h)))

  -- a save that is done is what recovery gives
  pub save_recovers : {a : List ℕ} (t : List ℕ) → Lived l r k a → Table l t → next l a < 2 ^ 64
      → recover l (stored a (next l a) (block_of (next l a) t)) ≡ recovered (next l a) t
  save_recovers {a} t v f h = recover_new a t (lived_kept v) f h

  -- "Then recovery gives the table before that save or after it, or JournalEmpty if there was none before."
  pub cut_recovers : {a b : List ℕ} (t : List ℕ) → Lived l r k a → Table l t → next l a < 2 ^ 64 → Cut l r k a t b
      → (recover l b ≡ recover l a) ⊎ (recover l b ≡ recovered (next l a) t)
  cut_recovers {a} t v f h cut = go t v f h cut
    where
      go : {a : List ℕ} (t : List ℕ) → Lived l r k a → Table l t → next l a < 2 ^ 64 → {b : List ℕ} → Cut l r k a t b
          → (recover l b ≡ recover l a) ⊎ (recover l b ≡ recovered (next l a) t)
      go t v f h as_it_was = inl refl
      go {a} t v f h as_it_should_be = inr (recover_new a t (lived_kept v) f h)
      go {a} t v f h (not_good c e g) = inl (recover_old a c (lived_kept v) e g)

  -- ---- the calls keep the premise

  -- highest numbers fit 64 bits
  highest_small : (a : List ℕ) → Kept l r k a → highest (latest_in l a) < 2 ^ 64
  unfolding highest
  highest_small a kept = rw (latest_is l k a kept.size) (go (latest l (blocks k a)) refl)
    where
      go : (m : Option (List ℕ)) → latest l (blocks k a) ≡ m → highest m < 2 ^ 64
      go none p = omega arith
      go (some c) p =
          subst (λ (x : List ℕ). number_of x < 2 ^ 64) (found l (blocks k a) c p).is
          (kept.small (found l (blocks k a) c p).at (rw (length_blocks k a) at (found l (blocks k a) c p).inside)
          (ap (good l) (found l (blocks k a) c p).is ∙ (found l (blocks k a) c p).fine))

  -- a save leaves an area that has lived, whether it stores or the journal has ended
  pub save_lives : {a : List ℕ} (t : List ℕ) → Lived l r k a → Table l t → Lived l r k (save l t a).area
  unfolding save save_after
  save_lives {a} t v f = rw (whole_is a (lived_kept v).size) (go (eqb (highest (latest_in l a)) (2 ^ 64 - 1)) refl)
    where
      go : (x : Bool) → eqb (highest (latest_in l a)) (2 ^ 64 - 1) ≡ x
          → Lived l r k (cond x (left a journal_ended) (left (stored a (next l a) (block_of (next l a) t)) (saved (next l a) ((next l a - 1) % count_of a)))).area
      go true e = v
      go false e =
          let n : highest (latest_in l a) ≡ 2 ^ 64 - 1 → ⊥ = eqb-false (highest (latest_in l a)) (2 ^ 64 - 1) e in
          let s : highest (latest_in l a) < 2 ^ 64 = highest_small a (lived_kept v) in
          Lived.saved t v f (lt_of_le-ne (omega (arith, s)) (λ q. n (omega (arith, q))))

  -- the two calls, one after the other
  pub save_then_recover : {a : List ℕ} (t : List ℕ) (n i : ℕ) → Lived l r k a → Table l t → (save l t a).says ≡ saved n i
      → recover l (save l t a).area ≡ recovered n t
  unfolding save save_after
  save_then_recover {a} t n i v f = rw (whole_is a (lived_kept v).size) (go (eqb (highest (latest_in l a)) (2 ^ 64 - 1)) refl)
    where
      go : (x : Bool) → eqb (highest (latest_in l a)) (2 ^ 64 - 1) ≡ x
          → (cond x (left a journal_ended) (left (stored a (next l a) (block_of (next l a) t)) (saved (next l a) ((next l a - 1) % count_of a)))).says ≡ saved n i
          → recover l (cond x (left a journal_ended) (left (stored a (next l a) (block_of (next l a) t)) (saved (next l a) ((next l a - 1) % count_of a)))).area ≡ recovered n t
      go true e q = let z : ◌≡◌ {A = ℕ} 0 1 = cc in absurd (omega (arith, z))
      go false e q =
          let m : highest (latest_in l a) ≡ 2 ^ 64 - 1 → ⊥ = eqb-false (highest (latest_in l a)) (2 ^ 64 - 1) e in
          let s : highest (latest_in l a) < 2 ^ 64 = highest_small a (lived_kept v) in
          let u : next l a ≡ n = saved_number q in
          save_recovers t v f (lt_of_le-ne (omega (arith, s)) (λ g. m (omega (arith, g)))) ∙ ap (λ (w : ℕ). recovered w t) u

  -- ---- P12: "an area written under the old limit recovers unchanged"

  newer_raised : (b : List ℕ) (m : Option (List ℕ)) → good r b ≡ good l b → newer r b m ≡ newer l b m
  unfolding newer
  newer_raised b none e = rw e
  newer_raised b (some c) e = rw e

  latest_raised : (bs : List (List ℕ)) → ((j : ℕ) → j < length bs → good r (get_or bs j []) ≡ good l (get_or bs j [])) → latest r bs ≡ latest l bs
  unfolding latest
  latest_raised [] h = refl
  latest_raised (b ∷ bs) h =
      ap (newer r b) (latest_raised bs (λ j g. h (suc j) (omega arith))) ∙ newer_raised b (latest l bs) (h 0 (omega arith))

  none_raised : recovered_from r none ≡ widened (r - l) (recovered_from l none)
  unfolding recovered_from
  none_raised = refl

  some_raised : (c : List ℕ) → good l c ≡ true → recovered_from r (some c) ≡ widened (r - l) (recovered_from l (some c))
  unfolding recovered_from
  some_raised c g = ap (recovered (number_of c)) (table_raised l r c low high g)

  -- the latest block is the same under both limits
  pub latest_both : {a : List ℕ} → Lived l r k a → latest_in r a ≡ latest_in l a
  latest_both {a} v =
      latest_is r k a (lived_kept v).size
      ∙ latest_raised (blocks k a) (λ j h. (lived_kept v).agree j (rw (length_blocks k a) at h))
      ∙ sym (latest_is l k a (lived_kept v).size)

  pub raised_recovers : {a : List ℕ} → Lived l r k a → recover r a ≡ widened (r - l) (recover l a)
  raised_recovers {a} v =
      recover_is r a kept.size ∙ ap (recovered_from r) same ∙ go (latest l (blocks k a)) refl
      ∙ ap (λ (m : Option (List ℕ)). widened (r - l) (recovered_from l m)) (sym (latest_is l k a kept.size))
      ∙ ap (widened (r - l)) (sym (recover_is l a kept.size))
    where
      kept : Kept l r k a
      kept = lived_kept v

      same : latest_in r a ≡ latest l (blocks k a)
      same = latest_both v ∙ latest_is l k a kept.size

      go : (m : Option (List ℕ)) → latest l (blocks k a) ≡ m → recovered_from r (latest l (blocks k a)) ≡ widened (r - l) (recovered_from l (latest l (blocks k a)))
      go none p = rw p (none_raised)
      go (some c) p = rw p (some_raised c (found l (blocks k a) c p).fine)

  -- ---- any history at once

  pub allows_lived : {a : List ℕ} {s : List Says} → Allows l r k a s → Lived l r k a
  allows_lived Allows.started = Lived.started
  allows_lived (Allows.saved t v f h) = Lived.saved t (allows_lived v) f h
  allows_lived (Allows.cut t v f h c) = Lived.cut t (allows_lived v) f h c

  here_by : {x y : Says} {s : List Says} → x ≡ y → In x (y ∷ s)
  here_by {x} {y} {s} e = subst (λ (z : Says). In x (z ∷ s)) e here

  cut_in : (a b : List ℕ) {s : List Says} (t : List ℕ) → In (recover l a) s
      → (recover l b ≡ recover l a) ⊎ (recover l b ≡ recovered (next l a) t) → In (recover l b) (recovered (next l a) t ∷ s)
  cut_in a b {s} t i (inl e) = later (subst (λ (z : Says). In z s) (sym e) i)
  cut_in a b {s} t i (inr e) = here_by e

  -- after any number of saves, each done or cut, recovery says what the history allows, and a save that is done leaves one answer
  pub recovers_allowed : {a : List ℕ} {s : List Says} → Allows l r k a s → In (recover l a) s
  recovers_allowed Allows.started = here_by empty_at_start
  recovers_allowed (Allows.saved {a} {s} t v f h) = here_by (save_recovers t (allows_lived v) f h)
  recovers_allowed (Allows.cut {a} {b} {s} t v f h c) = cut_in a b t (recovers_allowed v) (cut_recovers t (allows_lived v) f h c)

  -- starting a whole area of k blocks begins such a history
  pub start_lives : (a : List ℕ) → length a ≡ k * 512 → Lived l r k (start a).area
  unfolding start
  start_lives a e = rw (whole_is a e, e) Lived.started

-- P12: "an area written under the old limit recovers unchanged": the same number and table, with 896 places more, all free
pub old_area_recovers : {k : ℕ} {a : List ℕ} → 2 ≤ k → Lived 128 limit k a → recover limit a ≡ widened 896 (recover 128 a)
old_area_recovers {k} two v = raised_recovers 128 limit k two (omega arith) (omega arith) v

-- "The history that P4 counts starts afresh at a recovery, with the recovered table's waiting number added."
pub life_counts : {l r k : ℕ} {a t : List ℕ} {s g f : ℕ} → Life l r k a t s g f → waiting t + f ≡ s + g
life_counts {l} Life.begun = let e : waiting (replicate l free) ≡ 0 = none_waiting l in omega (arith, e)
life_counts (Life.taken v e) = omega arith
life_counts (Life.called {t = t} c v) =
    let h : waiting (call c t).table + one_if_freed (call c t).says ≡ waiting t + one_if_granted (call c t).says = call_balanced c t in
    let ih : _ = life_counts v in
    omega (arith, h, ih)
life_counts (Life.kept v) = life_counts v
life_counts (Life.back v c e) = omega arith
life_counts {l} (Life.anew v c q) = let e : waiting (replicate l free) ≡ 0 = none_waiting l in omega (arith, e)
