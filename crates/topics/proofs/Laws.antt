-- Wildcards, levels and where the first one ends, and what the first levels of a topic and a filter decide. Assumes nothing.
use mathlib.Core.Path.{◌≡◌, refl, sym, ap, ◌∙◌}
use mathlib.Core.Bool.{Bool, true, false, not, ◌&&◌, ◌||◌, cond, false≢true, or-true, and-false}
use mathlib.Core.List.{List, [], ◌∷◌, ◌++◌}
use Prim.Native.Nat.{ℕ, zero, suc, ◌+◌, ◌-◌, ◌≤◌, ◌<◌}
use native.Mathlib.Omega.{arith}
use native.Mathlib.Numerals.{add-one}
use lib.Dec.{eqb, leb}
use lib.ListN.{length, take, drop, get_or, length-drop}
use lib.Pointwise.{pointwise}
use lib.Seq.{drop-drop, take_all, take-length, get_or-take, length-take-le}
use borrow.Author.Tests.{eq-eqb, eqb-true, eqb-false, leb-true, leb-false, not-true, not-false}
use Rattle.std.specs.List.{list_any, position, position_or_len}
use Rattle.std.specs.Option.{unwrap_or}
use Rattle.std.specs.Bool.{nat_lt}
use Rattle.std.proofs.Common.{Some, None}
use Rattle.std.specs.declared.ops.ControlFlow.TheVariants.{Break}
use Rattle.topics.specs.Levels.{Level, slash, hash, plus, on_first, levels, is_wild, has_wild, lone, level_fine, levels_fine, valid_filter}
use Rattle.topics.specs.Match.{same, meets, rest_matches, begins}
use Rattle.topics.specs.Step.{slash_at, level_len, Ends, ends_at, HaveMet, GoesOn, Decides}

-- a part that runs to the end
pub to_end : {A : Type 0} (s : List A) (i : ℕ) → take (length s - i) (drop i s) ≡ drop i s
to_end s i = take_all (length s - i) (drop i s) (simp length-drop (omega arith))

-- what is left of s, behind all that was passed
pub record IsLeft (s rest : List ℕ) : Type 0 where
  pub within : length rest ≤ length s
  pub left : rest ≡ drop (length s - length rest) s

pub left_all : (s : List ℕ) → IsLeft s s
left_all s = record { within = omega arith; left = go (length s - length s) (omega arith) }
  where
    go : (n : ℕ) → n ≡ 0 → s ≡ drop n s
    go n e = rw e

pub left_on : (s rest : List ℕ) (n : ℕ) → n ≤ length rest → IsLeft s rest → IsLeft s (drop n rest)
left_on s rest n h l = record {
  within = simp length-drop (omega (arith, l.within));
  left =
      let k : length s - length (drop n rest) ≡ (length s - length rest) + n = simp length-drop (omega (arith, l.within)) in
      rw k (ap (drop n) l.left ∙ drop-drop n (length s - length rest) s);
}

-- ---- wildcards

pub both : (a b : Bool) → (a && b) ≡ true → (a ≡ true) × (b ≡ true)
both true b e = (refl, e)
both false b e = absurd (false≢true e)

pub wild_any : (s : List ℕ) → list_any is_wild s ≡ has_wild s
unfolding has_wild
wild_any [] = refl
wild_any (c ∷ s) = ap (λ (b : Bool). is_wild c || b) (wild_any s)

assoc : (x y z : Bool) → (x || (y || z)) ≡ (x || y || z)
assoc true y z = refl
assoc false y z = refl

-- those passed, and what is left
pub wild_parts : (i : ℕ) (s : List ℕ) → has_wild s ≡ (has_wild (take i s) || has_wild (drop i s))
unfolding has_wild
wild_parts zero s = refl
wild_parts (suc i) [] = refl
wild_parts (suc i) (c ∷ s) = ap (λ (b : Bool). is_wild c || b) (wild_parts i s) ∙ assoc (is_wild c) (has_wild (take i s)) (has_wild (drop i s))

pub wild_push : (s : List ℕ) (c : ℕ) → has_wild (s ++ c ∷ []) ≡ (has_wild s || is_wild c)
unfolding has_wild
wild_push [] c = go (is_wild c)
  where
    go : (b : Bool) → (b || false) ≡ b
    go true = refl
    go false = refl
wild_push (d ∷ s) c = ap (λ (b : Bool). is_wild d || b) (wild_push s c) ∙ assoc (is_wild d) (has_wild s) (is_wild c)

-- one wildcard in a part is one of the whole
pub wild_front : (i : ℕ) (s : List ℕ) → has_wild (take i s) ≡ true → has_wild s ≡ true
wild_front i s e = rw (wild_parts i s, e)

pub wild_behind : (i : ℕ) (s : List ℕ) → has_wild (drop i s) ≡ true → has_wild s ≡ true
wild_behind i s e = rw (wild_parts i s, e) (or-true (has_wild (take i s)))

-- with none in front, what is behind decides
pub wild_past : (i : ℕ) (s : List ℕ) → has_wild (take i s) ≡ false → has_wild (drop i s) ≡ has_wild s
wild_past i s e = sym (rw e at (wild_parts i s))

-- the end of what decides decides, and so does more of it
pub wild_more : (k m : ℕ) (s : List ℕ) → k ≤ m → has_wild (drop m s) ≡ has_wild s → has_wild (drop k s) ≡ has_wild s
wild_more k m s h e = go (has_wild (drop k s)) refl
  where
    on : drop m s ≡ drop (m - k) (drop k s)
    on = let q : m ≡ k + (m - k) = omega arith in sym (rw (sym q) at (drop-drop (m - k) k s))

    go : (b : Bool) → has_wild (drop k s) ≡ b → has_wild (drop k s) ≡ has_wild s
    go true q = q ∙ sym (wild_behind k s q)
    go false q = none (has_wild s) refl
      where
        none : (b : Bool) → has_wild s ≡ b → has_wild (drop k s) ≡ has_wild s
        none true r = absurd (false≢true (sym q ∙ wild_behind (m - k) (drop k s) (rw (sym on) (e ∙ r))))
        none false r = q ∙ sym r

-- ---- equal bytes

pub same_is : (a b : List ℕ) → same a b ≡ true → a ≡ b
unfolding same
same_is [] [] e = refl
same_is [] (d ∷ b) e = absurd (false≢true e)
same_is (c ∷ a) [] e = absurd (false≢true e)
same_is (c ∷ a) (d ∷ b) e =
    let (p, q) = both (eqb c d) (same a b) e in
    rw (eqb-true c d p, same_is a b q)

pub same_refl : (a : List ℕ) → same a a ≡ true
unfolding same
same_refl [] = refl
same_refl (c ∷ a) = rw (eq-eqb c c refl) (same_refl a)

pub same_pairs : (a b : List ℕ) → pointwise eqb a b ≡ same a b
unfolding same
same_pairs [] [] = refl
same_pairs [] (d ∷ b) = refl
same_pairs (c ∷ a) [] = refl
same_pairs (c ∷ a) (d ∷ b) = ap (λ (t : Bool). eqb c d && t) (same_pairs a b)

-- ---- a level of one byte

pub lone_one : (b : ℕ) (s : List ℕ) → length s ≡ 1 → lone b s ≡ eqb (get_or s 0 0) b
unfolding lone
lone_one b [] e = absurd (omega arith)
lone_one b (c ∷ []) e = refl
lone_one b (c ∷ d ∷ s) e = absurd (omega arith)

pub lone_other : (b : ℕ) (s : List ℕ) → (length s ≡ 1 → ⊥) → lone b s ≡ false
unfolding lone
lone_other b [] e = refl
lone_other b (c ∷ []) e = absurd (e refl)
lone_other b (c ∷ d ∷ s) e = refl

pub lone_apart : (l : Level) → lone plus l ≡ true → lone hash l ≡ false
unfolding lone
lone_apart [] e = absurd (false≢true e)
lone_apart (c ∷ []) e = rw (eqb-true c plus e)
lone_apart (c ∷ d ∷ l) e = absurd (false≢true e)

-- ---- the first level, and those behind it

-- the levels behind the first
unfoldable pub tail_levels : List ℕ → List Level
tail_levels [] = []
tail_levels (c ∷ s) = cond (eqb c slash) (levels s) (tail_levels s)

pub levels_head : (s : List ℕ) → levels s ≡ take (level_len s) s ∷ tail_levels s
unfolding levels level_len tail_levels
levels_head [] = refl
levels_head (c ∷ s) = go (eqb c slash) (levels_head s)
  where
    go : (b : Bool) → levels s ≡ take (level_len s) s ∷ tail_levels s
        → cond b ([] ∷ levels s) (on_first c (levels s)) ≡ take (cond b 0 (suc (level_len s))) (c ∷ s) ∷ cond b (levels s) (tail_levels s)
    go true ih = refl
    go false ih = ap (on_first c) ih

pub len_within : (s : List ℕ) → level_len s ≤ length s
unfolding level_len
len_within [] = omega arith
len_within (c ∷ s) = go (eqb c slash) (len_within s)
  where
    go : (b : Bool) → level_len s ≤ length s → cond b 0 (suc (level_len s)) ≤ suc (length s)
    go true ih = omega arith
    go false ih = omega arith

-- the first level is the last
pub tail_last : (s : List ℕ) → level_len s ≡ length s → tail_levels s ≡ []
unfolding level_len tail_levels
tail_last [] e = refl
tail_last (c ∷ s) e = go (eqb c slash) e (tail_last s)
  where
    go : (b : Bool) → cond b 0 (suc (level_len s)) ≡ suc (length s) → (level_len s ≡ length s → tail_levels s ≡ []) → cond b (levels s) (tail_levels s) ≡ []
    go true f ih = absurd (omega arith)
    go false f ih = ih (omega arith)

-- more levels follow
pub tail_cut : (s : List ℕ) → level_len s < length s → tail_levels s ≡ levels (drop (suc (level_len s)) s)
unfolding level_len tail_levels
tail_cut [] e = absurd (omega arith)
tail_cut (c ∷ s) e = go (eqb c slash) e (tail_cut s)
  where
    go : (b : Bool) → cond b 0 (suc (level_len s)) < suc (length s) → (level_len s < length s → tail_levels s ≡ levels (drop (suc (level_len s)) s))
        → cond b (levels s) (tail_levels s) ≡ levels (drop (cond b 0 (suc (level_len s))) s)
    go true f ih = refl
    go false f ih = ih (omega arith)

-- ---- where the first level ends

pub len_slash : (s : List ℕ) → level_len s < length s → slash_at s (level_len s) ≡ true
unfolding level_len
len_slash [] h = absurd (omega arith)
len_slash (c ∷ s) h = go (eqb c slash) refl h (len_slash s)
  where
    go : (b : Bool) → eqb c slash ≡ b → cond b 0 (suc (level_len s)) < suc (length s) → (level_len s < length s → slash_at s (level_len s) ≡ true)
        → slash_at (c ∷ s) (cond b 0 (suc (level_len s))) ≡ true
    go true e f ih = e
    go false e f ih = ih (omega arith)

-- no separator in k bytes
pub len_whole : (k : ℕ) (s : List ℕ) → level_len (take k s) ≡ k → level_len s ≡ k + level_len (drop k s)
unfolding level_len
len_whole zero s e = omega arith
len_whole (suc k) [] e = absurd (omega arith)
len_whole (suc k) (c ∷ s) e = go (eqb c slash) e (len_whole k s)
  where
    go : (b : Bool) → cond b 0 (suc (level_len (take k s))) ≡ suc k → (level_len (take k s) ≡ k → level_len s ≡ k + level_len (drop k s))
        → cond b 0 (suc (level_len s)) ≡ suc k + level_len (drop k s)
    go true f ih = absurd (omega arith)
    go false f ih = let q = ih (omega arith) in omega arith

pub len_run : (k : ℕ) (s : List ℕ) → level_len (take k s) ≡ length (take k s) → k ≤ length s → level_len s ≡ k + level_len (drop k s)
len_run k s e h = len_whole k s (e ∙ length-take-le k s h)

-- one in k bytes
pub len_part : (k : ℕ) (s : List ℕ) → level_len (take k s) < k → level_len (take k s) ≡ level_len s
unfolding level_len
len_part zero s h = absurd (omega arith)
len_part (suc k) [] h = refl
len_part (suc k) (c ∷ s) h = go (eqb c slash) h (len_part k s)
  where
    go : (b : Bool) → cond b 0 (suc (level_len (take k s))) < suc k → (level_len (take k s) < k → level_len (take k s) ≡ level_len s)
        → cond b 0 (suc (level_len (take k s))) ≡ cond b 0 (suc (level_len s))
    go true f ih = refl
    go false f ih = ap suc (ih (omega arith))

-- the first level has no separator
pub len_own : (s : List ℕ) → level_len (take (level_len s) s) ≡ level_len s
unfolding level_len
len_own [] = refl
len_own (c ∷ s) = go (eqb c slash) refl (len_own s)
  where
    go : (b : Bool) → eqb c slash ≡ b → level_len (take (level_len s) s) ≡ level_len s → level_len (take (cond b 0 (suc (level_len s))) (c ∷ s)) ≡ cond b 0 (suc (level_len s))
    go true e ih = refl
    go false e ih = rw e (ap suc ih)

pub ends_here : (s : List ℕ) (r : ℕ) → r ≡ level_len s → Ends s r
ends_here s r e = record { len = e; within = rw e (len_within s) }

pub own_level : (s : List ℕ) (r : ℕ) → Ends s r → level_len (take r s) ≡ length (take r s)
own_level s r n = rw n.len (len_own s ∙ sym (length-take-le (level_len s) s (len_within s)))

len_prefix : (s : List ℕ) → position_or_len (λ c. eqb c slash) s ≡ level_len s
unfolding level_len
len_prefix [] = refl
len_prefix (c ∷ s) = go (eqb c slash) (len_prefix s)
  where
    go : (b : Bool) → position_or_len (λ c. eqb c slash) s ≡ level_len s → cond (not b) (1 + position_or_len (λ c. eqb c slash) s) 0 ≡ cond b 0 (suc (level_len s))
    go true ih = refl
    go false ih = omega (arith, ih)

pub len_position : (s : List ℕ) → unwrap_or (position (λ c. eqb c slash) s) (length s) ≡ level_len s
len_position s = go (nat_lt (position_or_len (λ c. eqb c slash) s) (length s)) refl
  where
    n : ℕ
    n = position_or_len (λ c. eqb c slash) s

    go : (b : Bool) → nat_lt n (length s) ≡ b → unwrap_or (cond b (Some n) None) (length s) ≡ level_len s
    go true e = len_prefix s
    go false e = omega (arith, leb-false (suc n) (length s) e, len_prefix s, len_within s)

pub len_none : (s : List ℕ) → list_any (λ y. eqb y slash) s ≡ false → level_len s ≡ length s
unfolding level_len
len_none [] e = refl
len_none (c ∷ s) e = go (eqb c slash) e (len_none s)
  where
    go : (b : Bool) → (b || list_any (λ y. eqb y slash) s) ≡ false → (list_any (λ y. eqb y slash) s ≡ false → level_len s ≡ length s) → cond b 0 (suc (level_len s)) ≡ suc (length s)
    go true f ih = absurd (false≢true (sym f))
    go false f ih = ap suc (ih f)

own_end : (s : List ℕ) → ends_at s (level_len s) ≡ true
own_end s = go (eqb (level_len s) (length s)) refl
  where
    go : (b : Bool) → eqb (level_len s) (length s) ≡ b → ends_at s (level_len s) ≡ true
    go true e = rw e
    go false e = rw (e, len_slash s (omega (arith, len_within s, eqb-false (level_len s) (length s) e)))

-- behind n bytes without a separator is one, or the end
end_len : (n : ℕ) (s : List ℕ) → level_len (take n s) ≡ n → ends_at s n ≡ true → level_len s ≡ n
unfolding level_len
end_len zero [] e h = refl
end_len zero (c ∷ s) e h = go (eqb 0 (suc (length s))) refl h
  where
    go : (b : Bool) → eqb 0 (suc (length s)) ≡ b → (b || eqb c slash) ≡ true → cond (eqb c slash) 0 (suc (level_len s)) ≡ 0
    go true q f = absurd (omega (arith, eqb-true 0 (suc (length s)) q))
    go false q f = rw f
end_len (suc n) [] e h = absurd (omega arith)
end_len (suc n) (c ∷ s) e h = go (eqb c slash) e (λ q. end_len n s q (eqb-suc (eqb n (length s)) refl (eqb (suc n) (suc (length s))) refl h))
  where
    eqb-suc : (x : Bool) → eqb n (length s) ≡ x → (y : Bool) → eqb (suc n) (suc (length s)) ≡ y → (y || slash_at s n) ≡ true → ends_at s n ≡ true
    eqb-suc true p y q f = rw p
    eqb-suc false p true q f = absurd (omega (arith, eqb-false n (length s) p, eqb-true (suc n) (suc (length s)) q))
    eqb-suc false p false q f = rw (p, f)

    go : (b : Bool) → cond b 0 (suc (level_len (take n s))) ≡ suc n → (level_len (take n s) ≡ n → level_len s ≡ n) → cond b 0 (suc (level_len s)) ≡ suc n
    go true f ih = absurd (omega arith)
    go false f ih = ap suc (ih (omega arith))

-- ---- a topic that begins with a level

module _ (topic level : List ℕ) where
  -- then it is as long
  as_long : same level (take (level_len topic) topic) ≡ true → length level ≡ level_len topic
  as_long e = ap length (same_is level (take (level_len topic) topic) e) ∙ length-take-le (level_len topic) topic (len_within topic)

  -- the topic's first level has another length
  other : (length level ≡ level_len topic → ⊥) → false ≡ same level (take (level_len topic) topic)
  other h = go (same level (take (level_len topic) topic)) refl
    where
      go : (b : Bool) → same level (take (level_len topic) topic) ≡ b → false ≡ same level (take (level_len topic) topic)
      go true e = absurd (h (as_long e))
      go false e = sym e

  pub first_short : length topic < length level → false ≡ same level (take (level_len topic) topic)
  first_short h = other (λ e. omega (arith, len_within topic))

  pub first_longer : ends_at topic (length level) ≡ false → false ≡ same level (take (level_len topic) topic)
  first_longer h = other (λ e. false≢true (sym h ∙ rw e (own_end topic)))

-- the same of a level that has no separator
module _ (topic level : List ℕ) (own : level_len level ≡ length level) where
  pub first_same : ends_at topic (length level) ≡ true → pointwise eqb level (take (length level) topic) ≡ same level (take (level_len topic) topic)
  first_same h = same_pairs level (take (length level) topic) ∙ go (same level (take (length level) topic)) refl (same level (take (level_len topic) topic)) refl
    where
      len : same level (take (length level) topic) ≡ true → level_len topic ≡ length level
      len e =
          let q : level ≡ take (length level) topic = same_is level (take (length level) topic) e in
          end_len (length level) topic (sym (ap level_len q) ∙ own) h

      go : (x : Bool) → same level (take (length level) topic) ≡ x → (y : Bool) → same level (take (level_len topic) topic) ≡ y
          → same level (take (length level) topic) ≡ same level (take (level_len topic) topic)
      go true p y q = rw (len p)
      go false p true q = absurd (false≢true (sym p ∙ rw (as_long topic level q) q))
      go false p false q = p ∙ sym q

-- ---- what the first levels decide

module _ (topic filter : List ℕ) where
  -- the first level of each
  abbrev pub of_filter : Level
  of_filter = take (level_len filter) filter

  abbrev pub of_topic : Level
  of_topic = take (level_len topic) topic

  -- do the levels match?
  abbrev pub whole : Bool
  whole = rest_matches (levels filter) (levels topic)

  pub by_hash : true ≡ lone hash of_filter → true ≡ whole
  unfolding rest_matches
  by_hash e = rw (levels_head filter, levels_head topic, sym e)

  pub by_miss : lone hash of_filter ≡ false → meets of_filter of_topic ≡ false → false ≡ whole
  unfolding rest_matches
  by_miss e h = rw (levels_head filter, levels_head topic, e, h)

  module _ (e : lone hash of_filter ≡ false) (h : meets of_filter of_topic ≡ true) where
    tails : rest_matches (tail_levels filter) (tail_levels topic) ≡ whole
    unfolding rest_matches
    tails = rw (levels_head filter, levels_head topic, e, h)

    pub by_rest : level_len filter < length filter → level_len topic < length topic
        → rest_matches (levels (drop (level_len filter + 1) filter)) (levels (drop (level_len topic + 1) topic)) ≡ whole
    by_rest f t = rw (add-one (level_len filter), add-one (level_len topic), ← tail_cut filter f, ← tail_cut topic t) tails

    -- the filter has no more levels
    pub by_end : level_len filter ≡ length filter → eqb (level_len topic) (length topic) ≡ whole
    unfolding rest_matches
    by_end f = go (eqb (level_len topic) (length topic)) refl
      where
        go : (b : Bool) → eqb (level_len topic) (length topic) ≡ b → eqb (level_len topic) (length topic) ≡ whole
        go true q = q ∙ rw (tail_last filter f, tail_last topic (eqb-true (level_len topic) (length topic) q)) at tails
        go false q =
            let n : level_len topic < length topic = omega (arith, len_within topic, eqb-false (level_len topic) (length topic) q) in
            q ∙ rw (tail_last filter f, tail_cut topic n, levels_head (drop (suc (level_len topic)) topic)) at tails

    -- the topic has no more levels
    pub by_short : level_len filter < length filter → level_len topic ≡ length topic
        → lone hash (take (level_len (drop (level_len filter + 1) filter)) (drop (level_len filter + 1) filter)) ≡ whole
    unfolding rest_matches
    by_short f t =
        rw (add-one (level_len filter)) (rw (tail_cut filter f, tail_last topic t, levels_head (drop (suc (level_len filter)) filter)) at tails)

-- a filter that is `#` and nothing else
pub by_lone : (topic filter : List ℕ) → lone hash filter ≡ true → true ≡ rest_matches (levels filter) (levels topic)
unfolding lone level_len
by_lone topic [] e = absurd (false≢true e)
by_lone topic (c ∷ []) e = rw (eqb-true c hash e) (by_hash topic (hash ∷ []) refl)
by_lone topic (c ∷ d ∷ l) e = absurd (false≢true e)

-- ---- valid filters

module _ (s : List ℕ) where
  pub fine_next : level_len s < length s → levels_fine (levels s) ≡ (level_fine false (take (level_len s) s) && levels_fine (levels (drop (level_len s + 1) s)))
  unfolding levels_fine
  fine_next h = rw (levels_head s, tail_cut s h, add-one (level_len s), levels_head (drop (suc (level_len s)) s))

  pub fine_last : level_len s ≡ length s → levels_fine (levels s) ≡ level_fine true s
  unfolding levels_fine
  fine_last h = rw (levels_head s, tail_last s h, h, take-length s)

-- a level of one byte
module _ (last : Bool) where
  pub fine_one : (l : Level) → length l ≡ 1 → (last || not (eqb (get_or l 0 0) hash)) ≡ level_fine last l
  unfolding has_wild lone
  fine_one [] e = absurd (omega arith)
  fine_one (c ∷ []) e = go (eqb c plus) refl (eqb c hash) refl last
    where
      go : (p : Bool) → eqb c plus ≡ p → (h : Bool) → eqb c hash ≡ h → (b : Bool) → (b || not h) ≡ (not ((p || h) || false) || (p || b && h))
      go true p true h b = absurd (omega (arith, eqb-true c plus p, eqb-true c hash h))
      go true p false h true = refl
      go true p false h false = refl
      go false p true h true = refl
      go false p true h false = refl
      go false p false h true = refl
      go false p false h false = refl
  fine_one (c ∷ d ∷ l) e = absurd (omega arith)

  pub fine_more : (l : Level) → (length l ≡ 1 → ⊥) → not (has_wild l) ≡ level_fine last l
  fine_more l e = rw (lone_other plus l e, lone_other hash l e) (go (not (has_wild l)) last)
    where
      go : (b last : Bool) → b ≡ (b || (false || last && false))
      go true last = refl
      go false true = refl
      go false false = refl

pub filter_some : (s : List ℕ) → (length s ≡ 0 → ⊥) → levels_fine (levels s) ≡ valid_filter s
unfolding valid_filter
filter_some [] h = absurd (h refl)
filter_some (c ∷ s) h = refl

pub filter_none : (s : List ℕ) → length s ≡ 0 → false ≡ valid_filter s
unfolding valid_filter
filter_none [] h = refl
filter_none (c ∷ s) h = absurd (omega arith)

-- a filter without wildcards

-- no level has one
unfoldable Plains : List Level → Type 0
Plains [] = Unit
Plains (l ∷ ls) = (has_wild l ≡ false) × Plains ls

either : (a b : Bool) → (a || b) ≡ false → (a ≡ false) × (b ≡ false)
either true b e = absurd (false≢true (sym e))
either false b e = (refl, e)

plain_levels : (s : List ℕ) → has_wild s ≡ false → Plains (levels s)
unfolding has_wild levels Plains
plain_levels [] e = (refl, tt)
plain_levels (c ∷ s) e =
    let (p, q) = either (is_wild c) (has_wild s) e in
    go (eqb c slash) (levels s) p (plain_levels s q)
  where
    go : (b : Bool) (ls : List Level) → is_wild c ≡ false → Plains ls → Plains (cond b ([] ∷ ls) (on_first c ls))
    go true ls p h = (refl, h)
    go false [] p h = tt
    go false (l ∷ ls) p h = (rw p h.0, h.1)

plain_fine : (ls : List Level) → Plains ls → levels_fine ls ≡ true
unfolding levels_fine Plains
plain_fine [] h = refl
plain_fine (l ∷ []) h = rw h.0
plain_fine (l ∷ m ∷ ls) h = rw h.0 (plain_fine (m ∷ ls) h.1)

pub filter_plain : (s : List ℕ) → (length s ≡ 0 → ⊥) → has_wild s ≡ false → true ≡ valid_filter s
filter_plain s h e = sym (plain_fine (levels s) (plain_levels s e)) ∙ filter_some s h

-- ---- the same of the code's answers

module _ (topic filter : List ℕ) (f : ℕ) (n : Ends filter f) where
  pub decides_hash : true ≡ lone hash (take f filter) → Decides topic filter (Break true)
  decides_hash e = by_hash topic filter (rw n.len at e)

  pub decides_miss : (t : ℕ) → Ends topic t → lone hash (take f filter) ≡ false → meets (take f filter) (take t topic) ≡ false → Decides topic filter (Break false)
  decides_miss t m e h = by_miss topic filter (rw n.len at e) (rw (n.len, m.len) at h)

  -- under `+`
  module _ (t : ℕ) (m : Ends topic t) (e : lone plus (take f filter) ≡ true) where
    pub plus_hash : lone hash (take t topic) ≡ true → Decides topic filter (Break false)
    plus_hash h = decides_miss t m (lone_apart (take f filter) e) (rw h)

    pub plus_met : lone hash (take t topic) ≡ false → HaveMet topic filter t f
    plus_met h = record { topic_ends = m; filter_ends = n; no_hash = lone_apart (take f filter) e; met = rw (h, e) }

  -- any other level, and the first of the topic
  module _ (h : lone hash (take f filter) ≡ false) where
    pub level_met : same (take f filter) (take (level_len topic) topic) ≡ true → HaveMet topic filter f f
    level_met s =
        let q = same_is (take f filter) (take (level_len topic) topic) s in
        let e : f ≡ level_len topic = sym (length-take-le f filter n.within) ∙ (ap length q ∙ length-take-le (level_len topic) topic (len_within topic)) in
        let w : take f topic ≡ take f filter = ap (λ (k : ℕ). take k topic) e ∙ sym q in
        record {
          topic_ends = record { len = e; within = omega (arith, len_within topic) };
          filter_ends = n;
          no_hash = h;
          met = rw (w, h, same_refl (take f filter)) (or-true (lone plus (take f filter)));
        }

    pub level_missed : lone plus (take f filter) ≡ false → same (take f filter) (take (level_len topic) topic) ≡ false → Decides topic filter (Break false)
    level_missed p s =
        decides_miss (level_len topic) (record { len = refl; within = len_within topic }) h (rw (p, s) (and-false (not (lone hash (take (level_len topic) topic)))))

module _ (topic filter : List ℕ) (t f : ℕ) (m : HaveMet topic filter t f) where
  no_hash : lone hash (take (level_len filter) filter) ≡ false
  no_hash = rw m.filter_ends.len at m.no_hash

  met : meets (take (level_len filter) filter) (take (level_len topic) topic) ≡ true
  met = rw (m.filter_ends.len, m.topic_ends.len) at m.met

  pub decides_end : f ≡ length filter → Decides topic filter (Break (eqb t (length topic)))
  decides_end e = ap (λ (n : ℕ). eqb n (length topic)) m.topic_ends.len ∙ by_end topic filter no_hash met (sym m.filter_ends.len ∙ e)

  pub decides_short : (f ≡ length filter → ⊥) → t ≡ length topic → (b : Bool)
      → b ≡ lone hash (take (level_len (take (length filter - (f + 1)) (drop (f + 1) filter))) (take (length filter - (f + 1)) (drop (f + 1) filter)))
      → Decides topic filter (Break b)
  decides_short h e b r =
      let l : level_len filter < length filter = omega (arith, m.filter_ends.len, m.filter_ends.within) in
      rw (to_end filter (f + 1), m.filter_ends.len) at r ∙ by_short topic filter no_hash met l (sym m.topic_ends.len ∙ e)

  pub goes_on : (f ≡ length filter → ⊥) → (t ≡ length topic → ⊥)
      → GoesOn topic filter (take (length topic - (t + 1)) (drop (t + 1) topic)) (take (length filter - (f + 1)) (drop (f + 1) filter))
  goes_on h e =
      let l : level_len filter < length filter = omega (arith, m.filter_ends.len, m.filter_ends.within) in
      let k : level_len topic < length topic = omega (arith, m.topic_ends.len, m.topic_ends.within) in
      rw (to_end topic (t + 1), to_end filter (f + 1)) (record {
        shorter = simp length-drop (omega arith);
        decides = rw (m.filter_ends.len, m.topic_ends.len) (by_rest topic filter no_hash met l k);
      })

-- ---- the loop over the levels of a filter

-- what is left of the filter decides; its first level has `end` bytes
pub record Fine (filter rest : List ℕ) (end : ℕ) : Type 0 where
  pub ends : Ends rest end
  pub within : length rest ≤ length filter
  pub decides : levels_fine (levels rest) ≡ levels_fine (levels filter)

module _ {filter rest : List ℕ} {end : ℕ} (i : Fine filter rest end) where
  pub fine_broken : end < length rest → level_fine false (take end rest) ≡ false → false ≡ levels_fine (levels filter)
  fine_broken h b = rw (fine_next rest (omega (arith, i.ends.len)), ← i.ends.len, b) at i.decides

  pub fine_on : end < length rest → level_fine false (take end rest) ≡ true → (next : ℕ)
      → Ends (take (length rest - (end + 1)) (drop (end + 1) rest)) next → Fine filter (take (length rest - (end + 1)) (drop (end + 1) rest)) next
  fine_on h b next n = record {
    ends = n;
    within = rw (to_end rest (end + 1)) (simp length-drop (omega (arith, i.within)));
    decides = rw (to_end rest (end + 1)) (rw (fine_next rest (omega (arith, i.ends.len)), ← i.ends.len, b) at i.decides);
  }

  pub fine_done : length rest ≤ end → level_fine true rest ≡ levels_fine (levels filter)
  fine_done h = sym (fine_last rest (omega (arith, i.ends.len, i.ends.within))) ∙ i.decides

-- ---- the first byte

module _ (p : ℕ → Bool) where
  pub begins_none : (s : List ℕ) → length s ≡ 0 → begins p s ≡ false
  begins_none [] h = refl
  begins_none (c ∷ s) h = absurd (omega arith)

  pub begins_at : (s : List ℕ) → (length s ≡ 0 → ⊥) → begins p s ≡ p (get_or s 0 0)
  begins_at [] h = absurd (h refl)
  begins_at (c ∷ s) h = refl

-- ---- a search by the indices from a to e

-- a test holds of none of them
abbrev pub Clear : (ℕ → Bool) → ℕ → ℕ → Type 0
Clear p a e = (k : ℕ) → a ≤ k → k < e → p k ≡ false

-- r is the first of which it holds, or e
pub record First (p : ℕ → Bool) (a e r : ℕ) : Type 0 where
  pub low : a ≤ r
  pub high : r ≤ e
  pub clear : Clear p a r
  pub found : r < e → p r ≡ true

-- the byte at an index is a wildcard, not that of another run
abbrev pub wild_at : List ℕ → ℕ → Bool
wild_at s k = is_wild (get_or s k 0)

abbrev pub differ_at : List ℕ → List ℕ → ℕ → Bool
differ_at a b k = not (eqb (get_or a k 0) (get_or b k 0))

module _ (p : ℕ → Bool) (a : ℕ) where
  pub clear_none : Clear p a a
  clear_none k l h = absurd (omega arith)

  pub clear_next : (i : ℕ) → Clear p a i → p i ≡ false → Clear p a (i + 1)
  clear_next i c f k l h = go (eqb k i) refl
    where
      go : (b : Bool) → eqb k i ≡ b → p k ≡ false
      go true e = rw (eqb-true k i e) f
      go false e = c k l (omega (arith, eqb-false k i e))

  -- what was asked up to i, and from j on, where j is not past i
  pub clear_join : (i j e : ℕ) → j ≤ i → Clear p a i → Clear p j e → Clear p a e
  clear_join i j e m c d k l h = go (leb j k) refl
    where
      go : (b : Bool) → leb j k ≡ b → p k ≡ false
      go true q = d k (leb-true j k q) h
      go false q = c k l (omega (arith, leb-false j k q))

  pub first_here : (i e : ℕ) → a ≤ i → i < e → Clear p a i → p i ≡ true → First p a e i
  first_here i e l h c t = record { low = l; high = omega arith; clear = c; found = λ _. t }

  pub first_none : (i e : ℕ) → a ≤ i → i ≤ e → e ≤ i → Clear p a i → First p a e i
  first_none i e l h g c = record { low = l; high = h; clear = c; found = λ m. absurd (omega arith) }

  pub first_on : (i e r : ℕ) → a ≤ i → Clear p a i → First p i e r → First p a e r
  first_on i e r l c f = record { low = omega (arith, f.low); high = f.high; clear = clear_join i i r (omega arith) c f.clear; found = f.found }

  -- found before m, where the search may go on to e
  pub first_within : (m e r : ℕ) → m ≤ e → r < m → First p a m r → First p a e r
  first_within m e r l h f = record { low = f.low; high = omega arith; clear = f.clear; found = λ _. f.found h }

pub wild_clear : (s : List ℕ) → Clear (wild_at s) 0 (length s) → has_wild s ≡ false
unfolding has_wild
wild_clear [] c = refl
wild_clear (x ∷ s) c =
    let e : is_wild x ≡ false = c 0 (omega arith) (omega arith) in
    rw e (wild_clear s (λ k l h. c (suc k) (omega arith) (omega arith)))

pub wild_hit : (s : List ℕ) (k : ℕ) → k < length s → wild_at s k ≡ true → has_wild s ≡ true
unfolding has_wild
wild_hit [] k h e = absurd (omega arith)
wild_hit (x ∷ s) zero h e = rw e
wild_hit (x ∷ s) (suc k) h e = rw (wild_hit s k (omega arith) e) (or-true (is_wild x))

pub same_clear : (a b : List ℕ) → length a ≡ length b → Clear (differ_at a b) 0 (length a) → same a b ≡ true
unfolding same
same_clear [] [] e c = refl
same_clear [] (d ∷ b) e c = absurd (omega arith)
same_clear (x ∷ a) [] e c = absurd (omega arith)
same_clear (x ∷ a) (y ∷ b) e c =
    let f : eqb x y ≡ true = not-false (eqb x y) (c 0 (omega arith) (omega arith)) in
    rw f (same_clear a b (omega arith) (λ k l h. c (suc k) (omega arith) (omega arith)))

pub same_hit : (a b : List ℕ) (k : ℕ) → k < length a → length a ≡ length b → differ_at a b k ≡ true → same a b ≡ false
unfolding same
same_hit [] b k h l e = absurd (omega arith)
same_hit (x ∷ a) [] k h l e = absurd (omega arith)
same_hit (x ∷ a) (y ∷ b) zero h l e = rw (not-true (eqb x y) e)
same_hit (x ∷ a) (y ∷ b) (suc k) h l e = rw (same_hit a b k (omega arith) (omega arith) e) (and-false (eqb x y))

pub same_length : (a b : List ℕ) → (length a ≡ length b → ⊥) → same a b ≡ false
unfolding same
same_length [] [] h = absurd (h refl)
same_length [] (d ∷ b) h = refl
same_length (c ∷ a) [] h = refl
same_length (c ∷ a) (d ∷ b) h = rw (same_length a b (λ e. h (ap suc e))) (go (eqb c d))
  where
    go : (t : Bool) → (t && false) ≡ false
    go true = refl
    go false = refl

pub len_clear : (s : List ℕ) (k : ℕ) → k < level_len s → slash_at s k ≡ false
unfolding level_len
len_clear [] k h = absurd (omega arith)
len_clear (c ∷ s) zero h = go (eqb c slash) refl h
  where
    go : (b : Bool) → eqb c slash ≡ b → 0 < cond b 0 (suc (level_len s)) → eqb c slash ≡ false
    go true e f = absurd (omega arith)
    go false e f = e
len_clear (c ∷ s) (suc k) h = go (eqb c slash) h (len_clear s k)
  where
    go : (b : Bool) → suc k < cond b 0 (suc (level_len s)) → (k < level_len s → slash_at s k ≡ false) → slash_at s k ≡ false
    go true f ih = absurd (omega arith)
    go false f ih = ih (omega arith)

-- the first separator, or the end, ends the first level
pub first_ends : (s : List ℕ) (r : ℕ) → First (slash_at s) 0 (length s) r → Ends s r
first_ends s r f = record { len = go (leb r (level_len s)) refl (leb (level_len s) r) refl; within = f.high }
  where
    go : (x : Bool) → leb r (level_len s) ≡ x → (y : Bool) → leb (level_len s) r ≡ y → r ≡ level_len s
    go true p true q = omega (arith, leb-true r (level_len s) p, leb-true (level_len s) r q)
    go true p false q =
        let l : r < level_len s = leb-false (level_len s) r q in
        absurd (false≢true (sym (len_clear s r l) ∙ f.found (omega (arith, len_within s))))
    go false p y q =
        let l : level_len s < r = leb-false r (level_len s) p in
        absurd (false≢true (sym (f.clear (level_len s) (omega arith) l) ∙ len_slash s (omega (arith, f.high))))

-- no byte of the first level is a separator
pub level_clear : (s : List ℕ) (r : ℕ) → Ends s r → Clear (slash_at (take r s)) 0 (length (take r s))
level_clear s r n k l h =
    let m : k < r = omega (arith, length-take-le r s n.within) in
    rw (get_or-take r s k 0 m) (len_clear s k (omega (arith, n.len)))
