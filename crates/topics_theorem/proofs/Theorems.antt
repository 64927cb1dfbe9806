-- The theorems of P5. `levels_iff`: `levels` is the one way to cut a text at its separators. `wildcards_iff`, `wild_iff`, `filter_iff`: which
-- texts have wildcards, which topics and filters are valid. `matches_iff`: which filter matches which topic, for all bytes. `standard_iff`: for
-- valid ones it is MQTT 4.7. Assumes nothing.
use mathlib.Core.Path.{◌≡◌, refl, sym, ap, ◌∙◌}
use mathlib.Core.Logic.{◌↔◌}
use mathlib.Core.Bool.{Bool, true, false, not, ◌&&◌, ◌||◌, cond, false≢true, or-true}
use mathlib.Core.List.{List, [], ◌∷◌, ◌++◌}
use Prim.Native.Nat.{ℕ, ◌+◌}
use native.Mathlib.Omega.{arith}
use lib.Dec.{eqb}
use lib.ListN.{take}
use borrow.Author.Tests.{eq-eqb, ne_eqb, eqb-true, eqb-false, not-true}
use Rattle.topics.specs.Levels.{Level, slash, hash, plus, on_first, levels, is_wild, has_wild, lone, valid_topic, level_fine, levels_fine, valid_filter}
use Rattle.topics.specs.Match.{same, rest_matches, barred, matches_of}
use Rattle.topics.specs.Step.{level_len}
use Rattle.topics_theorem.specs.Standard.{joined, Without, Uncut, IsCut, Wild, has_plus, has_hash, further, of_hash, of_plus, Matches, ends, hashes, pluses, equals, Covers, done, below, one, itself, Plain, Proper, last_hash, last_plus, last_plain, then_plus, then_plain, Barred, by_plus, by_hash, IsMatch, IsCovered}
use Rattle.topics.proofs.Laws.{both, same_is, same_refl, tail_levels, levels_head}

-- ---- split and join

pub split_join : (s : List ℕ) → joined (levels s) ≡ s
unfolding levels joined
split_join [] = refl
split_join (c ∷ s) = go (eqb c slash) refl (take (level_len s) s) (tail_levels s) (levels_head s) (split_join s)
  where
    go : (b : Bool) → eqb c slash ≡ b → (l : Level) (ls : List Level) → levels s ≡ l ∷ ls → joined (levels s) ≡ s
        → joined (cond b ([] ∷ levels s) (on_first c (levels s))) ≡ c ∷ s
    go true e l ls q h = rw q (rw (eqb-true c slash e) (ap (λ (t : List ℕ). slash ∷ t) (rw q at h)))
    go false e l [] q h = rw q (ap (λ (t : List ℕ). c ∷ t) (rw q at h))
    go false e l (m ∷ ls) q h = rw q (ap (λ (t : List ℕ). c ∷ t) (rw q at h))

pub split_uncut : (s : List ℕ) → Uncut (levels s)
unfolding levels Uncut Without
split_uncut [] = (tt, tt)
split_uncut (c ∷ s) = go (eqb c slash) refl (levels s) (split_uncut s)
  where
    go : (b : Bool) → eqb c slash ≡ b → (ls : List Level) → Uncut ls → Uncut (cond b ([] ∷ ls) (on_first c ls))
    go true e ls h = (tt, h)
    go false e [] h = tt
    go false e (l ∷ ls) h = ((eqb-false c slash e, h.0), h.1)

-- a level, a separator, and what follows
cut_at : (l s : List ℕ) → Without slash l → levels (l ++ slash ∷ s) ≡ l ∷ levels s
unfolding levels Without
cut_at [] s h = refl
cut_at (c ∷ l) s h = rw (ne_eqb c slash h.0, cut_at l s h.1)

uncut_one : (l : List ℕ) → Without slash l → levels l ≡ l ∷ []
unfolding levels Without
uncut_one [] h = refl
uncut_one (c ∷ l) h = rw (ne_eqb c slash h.0, uncut_one l h.1)

pub join_split : (l : Level) (ls : List Level) → Uncut (l ∷ ls) → levels (joined (l ∷ ls)) ≡ l ∷ ls
unfolding joined Uncut
join_split l [] h = uncut_one l h.0
join_split l (m ∷ ls) h = cut_at l (joined (m ∷ ls)) h.0 ∙ ap (λ (t : List Level). l ∷ t) (join_split m ls h.1)

-- MQTT 4.7.1.1: a list is `levels s` exactly if it cuts s at every separator, and nowhere else
pub levels_iff : (s : List ℕ) (ls : List Level) → (ls ≡ levels s) ↔ IsCut s ls
levels_iff s ls = (
  λ e. rw e (record { some = λ n. let h = sym n ∙ levels_head s in let z : ◌≡◌ {A = ℕ} 0 1 = cc in omega arith; uncut = split_uncut s; joins = split_join s }),
  λ c. only ls c.some c.uncut c.joins,
)
  where
    only : (ls : List Level) → (ls ≡ [] → ⊥) → Uncut ls → joined ls ≡ s → ls ≡ levels s
    only [] n u e = absurd (n refl)
    only (l ∷ ls) n u e = sym (rw e at (join_split l ls u))

-- ---- wildcards

to_wild : (s : List ℕ) → has_wild s ≡ true → Wild s
unfolding has_wild
to_wild [] e = absurd (false≢true e)
to_wild (c ∷ s) e = go (eqb c plus) refl (eqb c hash) refl e (to_wild s)
  where
    go : (a : Bool) → eqb c plus ≡ a → (b : Bool) → eqb c hash ≡ b → ((a || b) || has_wild s) ≡ true → (has_wild s ≡ true → Wild s) → Wild (c ∷ s)
    go true p b q f ih = rw (eqb-true c plus p) has_plus
    go false p true q f ih = rw (eqb-true c hash q) has_hash
    go false p false q f ih = further (ih f)

of_wild : {s : List ℕ} → Wild s → has_wild s ≡ true
unfolding has_wild
of_wild has_plus = refl
of_wild has_hash = refl
of_wild (further {c} w) = rw (of_wild w) (or-true (is_wild c))

-- P5: `has_wildcards` gives true exactly if a '+' or a '#' stands somewhere
pub wildcards_iff : (s : List ℕ) → (has_wild s ≡ true) ↔ Wild s
wildcards_iff s = (to_wild s, λ w. of_wild w)

wild_none : (s : List ℕ) → has_wild s ≡ false → Plain s
unfolding has_wild Without
wild_none [] e = (tt, tt)
wild_none (c ∷ s) e = go (eqb c plus) refl (eqb c hash) refl e (wild_none s)
  where
    go : (a : Bool) → eqb c plus ≡ a → (b : Bool) → eqb c hash ≡ b → (a || b || has_wild s) ≡ false → (has_wild s ≡ false → Plain s) → Plain (c ∷ s)
    go true p b q f ih = absurd (false≢true (sym f))
    go false p true q f ih = absurd (false≢true (sym f))
    go false p false q f ih = ((eqb-false c plus p, (ih f).0), (eqb-false c hash q, (ih f).1))

none_wild : (s : List ℕ) → Plain s → has_wild s ≡ false
unfolding has_wild Without
none_wild [] h = refl
none_wild (c ∷ s) h = rw (ne_eqb c plus h.0.0, ne_eqb c hash h.1.0) (none_wild s (h.0.1, h.1.1))

-- MQTT 4.7.1: a topic is valid exactly if no byte of it is a wildcard
pub wild_iff : (topic : List ℕ) → (valid_topic topic ≡ true) ↔ Plain topic
wild_iff topic = (λ e. wild_none topic (not-true (has_wild topic) e), λ h. ap not (none_wild topic h))

-- ---- levels and bytes that are the same

lone_is : (b : ℕ) (l : Level) → lone b l ≡ true → l ≡ b ∷ []
unfolding lone
lone_is b [] e = absurd (false≢true e)
lone_is b (c ∷ []) e = ap (λ (d : ℕ). d ∷ []) (eqb-true c b e)
lone_is b (c ∷ d ∷ l) e = absurd (false≢true e)

lone_not : (b : ℕ) (l : Level) → lone b l ≡ false → l ≡ b ∷ [] → ⊥
unfolding lone
lone_not b l e h = false≢true (sym (rw h at e) ∙ eq-eqb b b refl)

not_lone : (b : ℕ) (l : Level) → (l ≡ b ∷ [] → ⊥) → lone b l ≡ false
unfolding lone
not_lone b [] h = refl
not_lone b (c ∷ []) h = ne_eqb c b (λ e. h (ap (λ (d : ℕ). d ∷ []) e))
not_lone b (c ∷ d ∷ l) h = refl

-- ---- matching

to_matches : (fs ts : List Level) → rest_matches fs ts ≡ true → Matches fs ts
unfolding rest_matches
to_matches [] [] e = ends
to_matches [] (t ∷ ts) e = absurd (false≢true e)
to_matches (f ∷ fs) [] e = rw (lone_is hash f e) hashes
to_matches (f ∷ fs) (t ∷ ts) e = go (lone hash f) refl (lone hash t) refl (lone plus f) refl e (to_matches fs ts)
  where
    go : (a : Bool) → lone hash f ≡ a → (b : Bool) → lone hash t ≡ b → (d : Bool) → lone plus f ≡ d
        → (a || (not b && (d || same f t) && rest_matches fs ts)) ≡ true → (rest_matches fs ts ≡ true → Matches fs ts) → Matches (f ∷ fs) (t ∷ ts)
    go true p b q d r h ih = rw (lone_is hash f p) hashes
    go false p true q d r h ih = absurd (false≢true h)
    go false p false q true r h ih = rw (lone_is plus f r) (pluses (lone_not hash t q) (ih h))
    go false p false q false r h ih =
        let (x, y) = both (same f t) (rest_matches fs ts) h in
        rw (same_is f t x) (equals (lone_not hash t q) (ih y))

of_matches : {fs ts : List Level} → Matches fs ts → rest_matches fs ts ≡ true
unfolding rest_matches lone
of_matches ends = refl
of_matches (hashes {fs} {ts}) = go ts
  where
    go : (ts : List Level) → rest_matches (of_hash ∷ fs) ts ≡ true
    go [] = refl
    go (t ∷ ts) = refl
of_matches (pluses {t} {fs} {ts} n m) = rw (not_lone hash t n) (of_matches m)
of_matches (equals {t} {fs} {ts} n m) = rw (not_lone hash t n, same_refl t, of_matches m) (go (lone plus t))
  where
    go : (b : Bool) → (b || true) && true ≡ true
    go true = refl
    go false = refl

-- ---- what is barred

barred_is : (topic filter : List ℕ) → barred topic filter ≡ true → Barred topic filter
barred_is [] filter e = absurd (false≢true e)
barred_is (c ∷ topic) [] e = let (p, q) = both (eqb 36 c) false e in absurd (false≢true q)
barred_is (c ∷ topic) (d ∷ filter) e =
    let (p, q) = both (eqb 36 c) (is_wild d) e in
    rw (sym (eqb-true 36 c p)) (go (eqb d plus) refl q)
  where
    go : (a : Bool) → eqb d plus ≡ a → (a || eqb d hash) ≡ true → Barred (36 ∷ topic) (d ∷ filter)
    go true r h = rw (eqb-true d plus r) by_plus
    go false r h = rw (eqb-true d hash h) by_hash

is_barred : {topic filter : List ℕ} → Barred topic filter → barred topic filter ≡ true
is_barred by_plus = refl
is_barred by_hash = refl

free_iff : (topic filter : List ℕ) → (not (barred topic filter) ≡ true) ↔ (Barred topic filter → ⊥)
free_iff topic filter = (λ e b. false≢true (sym (not-true (barred topic filter) e) ∙ is_barred b), λ h. go (barred topic filter) refl h)
  where
    go : (b : Bool) → barred topic filter ≡ b → (Barred topic filter → ⊥) → not b ≡ true
    go true e h = absurd (h (barred_is topic filter e))
    go false e h = refl

-- P5: `matches` gives true exactly for these, whatever bytes topic and filter are
pub matches_iff : (topic filter : List ℕ) → (matches_of topic filter ≡ true) ↔ IsMatch topic filter
unfolding matches_of
matches_iff topic filter = (
  λ e. let (p, q) = both (not (barred topic filter)) (rest_matches (levels filter) (levels topic)) e in
      record { free = (free_iff topic filter).0 p; levels_match = to_matches (levels filter) (levels topic) q },
  λ m. rw ((free_iff topic filter).1 m.free, of_matches m.levels_match),
)

-- ---- valid filters

-- a level of a filter, the last one or another
data Kind (last : Bool) (l : Level) : Type 0 where
  plain : Plain l → Kind last l
  a_plus : l ≡ of_plus → Kind last l
  a_hash : last ≡ true → l ≡ of_hash → Kind last l

kind_of_lem : (last : Bool) (l : Level) → level_fine last l ≡ true → Kind last l
kind_of_lem last l e = go (has_wild l) refl (lone plus l) refl last refl e
  where
    go : (a : Bool) → has_wild l ≡ a → (b : Bool) → lone plus l ≡ b → (d : Bool) → last ≡ d → (not a || (b || d && lone hash l)) ≡ true → Kind last l
    go false p b q d r h = plain (wild_none l p)
    go true p true q d r h = a_plus (lone_is plus l q)
    go true p false q true r h = a_hash r (lone_is hash l h)
    go true p false q false r h = absurd (false≢true h)

plain_fine : (last : Bool) (l : Level) → Plain l → level_fine last l ≡ true
plain_fine last l h = rw (none_wild l h)

to_proper : (l : Level) (ls : List Level) → levels_fine (l ∷ ls) ≡ true → Proper (l ∷ ls)
unfolding levels_fine
to_proper l [] e = go (kind_of_lem true l e)
  where
    go : Kind true l → Proper (l ∷ [])
    go (plain h) = last_plain h
    go (a_plus h) = rw h last_plus
    go (a_hash t h) = rw h last_hash
to_proper l (m ∷ ls) e =
    let (p, q) = both (level_fine false l) (levels_fine (m ∷ ls)) e in
    go (kind_of_lem false l p) (to_proper m ls q)
  where
    go : Kind false l → Proper (m ∷ ls) → Proper (l ∷ m ∷ ls)
    go (plain h) r = then_plain h r
    go (a_plus h) r = rw h (then_plus r)
    go (a_hash t h) r = absurd (false≢true t)

of_proper : {ls : List Level} → Proper ls → levels_fine ls ≡ true
unfolding levels_fine has_wild lone
of_proper last_hash = refl
of_proper last_plus = refl
of_proper (last_plain {l} h) = plain_fine true l h
of_proper (then_plus r) = of_proper r
of_proper (then_plain {l} {m} {ls} h r) = rw (plain_fine false l h) (of_proper r)

-- MQTT 4.7.1 and 4.7.3: a filter is valid exactly if it is not empty and each level of it is proper
pub filter_iff : (filter : List ℕ) → (valid_filter filter ≡ true) ↔ ((filter ≡ [] → ⊥) × Proper (levels filter))
unfolding valid_filter
filter_iff [] = (λ e. absurd (false≢true e), λ h. absurd (h.0 refl))
filter_iff (c ∷ s) = (λ e. (λ n. let z : ◌≡◌ {A = ℕ} 0 1 = cc in omega arith, proper e), λ h. of_proper h.1)
  where
    proper : levels_fine (levels (c ∷ s)) ≡ true → Proper (levels (c ∷ s))
    proper e = rw (levels_head (c ∷ s)) (to_proper _ _ (rw (levels_head (c ∷ s)) at e))

-- ---- MQTT 4.7

-- no level is '#'
unfoldable NoHash : List Level → Type 0
NoHash [] = Unit
NoHash (l ∷ ls) = (l ≡ of_hash → ⊥) × NoHash ls

-- each level is free of '#'
unfoldable Clear : List Level → Type 0
Clear [] = Unit
Clear (l ∷ ls) = Without hash l × Clear ls

clear_levels : (s : List ℕ) → Without hash s → Clear (levels s)
unfolding levels Without Clear
clear_levels [] h = (tt, tt)
clear_levels (c ∷ s) h = go (eqb c slash) (levels s) (clear_levels s h.1)
  where
    go : (b : Bool) (ls : List Level) → Clear ls → Clear (cond b ([] ∷ ls) (on_first c ls))
    go true ls i = (tt, i)
    go false [] i = tt
    go false (l ∷ ls) i = ((h.0, i.0), i.1)

no_hash : (ls : List Level) → Clear ls → NoHash ls
unfolding Clear NoHash Without
no_hash [] h = tt
no_hash (l ∷ ls) h = (λ e. (rw e at h.0).0 refl, no_hash ls h.1)

of_covers : {fs ts : List Level} → NoHash ts → Covers fs ts → Matches fs ts
unfolding NoHash
of_covers n done = ends
of_covers n below = hashes
of_covers n (one m) = pluses n.0 (of_covers n.1 m)
of_covers n (itself m) = equals n.0 (of_covers n.1 m)

tail_fine : (l : Level) (ls : List Level) → levels_fine (l ∷ ls) ≡ true → levels_fine ls ≡ true
unfolding levels_fine
tail_fine l [] e = refl
tail_fine l (m ∷ ls) e = (both (level_fine false l) (levels_fine (m ∷ ls)) e).1

to_covers : {fs ts : List Level} → levels_fine fs ≡ true → Matches fs ts → Covers fs ts
unfolding levels_fine has_wild lone
to_covers e ends = done
to_covers e (hashes {fs} {ts}) = go fs e
  where
    go : (fs : List Level) → levels_fine (of_hash ∷ fs) ≡ true → Covers (of_hash ∷ fs) ts
    go [] h = below
    go (m ∷ ls) h = absurd (false≢true h)
to_covers e (pluses {t} {fs} n m) = one (to_covers (tail_fine of_plus fs e) m)
to_covers e (equals {t} {fs} n m) = itself (to_covers (tail_fine t fs e) m)

filter_fine : (filter : List ℕ) → valid_filter filter ≡ true → levels_fine (levels filter) ≡ true
unfolding valid_filter
filter_fine [] e = absurd (false≢true e)
filter_fine (c ∷ s) e = e

-- MQTT 4.7: for a valid filter and a valid topic, `matches` gives true exactly where the standard says that they match
pub standard_iff : (topic filter : List ℕ) → valid_topic topic ≡ true → valid_filter filter ≡ true → (matches_of topic filter ≡ true) ↔ IsCovered topic filter
standard_iff topic filter t f = (
  λ e. let m = (matches_iff topic filter).0 e in record { free = m.free; levels_match = to_covers (filter_fine filter f) m.levels_match },
  λ m. (matches_iff topic filter).1 (record {
    free = m.free;
    levels_match = of_covers (no_hash (levels topic) (clear_levels topic ((wild_iff topic).0 t).1)) m.levels_match;
  }),
)
