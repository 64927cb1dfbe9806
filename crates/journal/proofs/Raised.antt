-- P12: an area that lived under a limit has lived under a higher one, by the same saves with free places more in each table.
-- Assumes nothing.
use mathlib.Core.Path.{◌≡◌, refl, ap, ◌∙◌, subst}
use mathlib.Core.Logic.{◌⊎◌, inl, inr}
use mathlib.Core.List.{List, [], ◌∷◌, ◌++◌, map}
use mathlib.Core.Option.{Option}
use Prim.Native.Nat.{ℕ, zero, suc, ◌+◌, ◌*◌, ◌-◌, ◌^◌, ◌<◌, ◌≤◌}
use native.Mathlib.Omega.{arith}
use lib.ListN.{get_or, replicate, length-append, length-replicate}
use Rattle.inflight.specs.Rules.{limit, waiting, one_if_waits}
use Rattle.inflight.proofs.Theorems.{none_waiting}
use Rattle.crc32.specs.Crc.{crc_of}
use Rattle.journal.specs.Block.{each, bytes_of, packed_at, body_of, block_of}
use Rattle.journal.specs.Area.{highest, stored, Says, recovered, recover}
use Rattle.journal.specs.History.{Table, widened, next, Cut, Lived, Allows, as_it_was, as_it_should_be, not_good, Life}
use Rattle.journal.proofs.Theorems.{latest_both, cut_recovers, allows_lived, raised_recovers, old_area_recovers}

-- ---- free places more make the same block

zeros_get : (d i : ℕ) → ◌≡◌ {A = ℕ} (get_or (replicate d 0) i 0) 0
zeros_get zero i = refl
zeros_get (suc d) zero = refl
zeros_get (suc d) (suc i) = zeros_get d i

wide_get : (t : List ℕ) (d i : ℕ) → get_or (t ++ replicate d 0) i 0 ≡ get_or t i 0
wide_get [] d i = zeros_get d i
wide_get (x ∷ t) d zero = refl
wide_get (x ∷ t) d (suc i) = wide_get t d i

wide_packed : (t : List ℕ) (d j : ℕ) → packed_at (t ++ replicate d 0) j ≡ packed_at t j
unfolding packed_at
wide_packed t d j = rw (wide_get t d (4 * j), wide_get t d (4 * j + 1), wide_get t d (4 * j + 2), wide_get t d (4 * j + 3))

each_same : (f g : ℕ → ℕ) → ((i : ℕ) → f i ≡ g i) → (i n : ℕ) → each f i n ≡ each g i n
unfolding each
each_same f g h i zero = refl
each_same f g h i (suc n) = rw (h i) (ap (λ (s : List ℕ). g i ∷ s) (each_same f g h (suc i) n))

wide_body : (n : ℕ) (t : List ℕ) (d : ℕ) → body_of n (t ++ replicate d 0) ≡ body_of n t
unfolding body_of
wide_body n t d =
    ap (λ (s : List ℕ). bytes_of 8 n ++ (s ++ replicate 244 0)) (each_same (packed_at (t ++ replicate d 0)) (packed_at t) (wide_packed t d) 0 256)

pub wide_block : (n : ℕ) (t : List ℕ) (d : ℕ) → block_of n (t ++ replicate d 0) ≡ block_of n t
unfolding block_of
wide_block n t d = ap (λ (s : List ℕ). s ++ bytes_of 4 (crc_of s)) (wide_body n t d)

module _ (l r k : ℕ) (two : 2 ≤ k) (low : l ≤ r) (high : r ≤ 1024) where
  -- a table under the higher limit
  abbrev wide : List ℕ → List ℕ
  wide t = t ++ replicate (r - l) 0

  wide_table : (t : List ℕ) → Table l t → Table r (wide t)
  wide_table t f = record {
    long = length-append t (replicate (r - l) 0) ∙ omega (arith, f.long, length-replicate {A = ℕ} (r - l) 0);
    states = λ i. rw (wide_get t (r - l) i) (f.states i);
  }

  -- a save takes the same number under both limits
  pub next_both : {a : List ℕ} → Lived l r k a → next r a ≡ next l a
  next_both v = ap (λ (m : Option (List ℕ)). highest m + 1) (latest_both l r k two low high v)

  -- and stores the same block
  same_stored : (a t : List ℕ) → next r a ≡ next l a → stored a (next r a) (block_of (next r a) (wide t)) ≡ stored a (next l a) (block_of (next l a) t)
  same_stored a t e = ap (λ (n : ℕ). stored a n (block_of n (wide t))) e ∙ ap (stored a (next l a)) (wide_block (next l a) t (r - l))

  pub cut_raised : {a b : List ℕ} (t : List ℕ) → next r a ≡ next l a → Cut l r k a t b → Cut r r k a (wide t) b
  cut_raised {a} t e cut = go t e cut
    where
      go : {a : List ℕ} (t : List ℕ) → next r a ≡ next l a → {b : List ℕ} → Cut l r k a t b → Cut r r k a (wide t) b
      go t e as_it_was = as_it_was
      go {a} t e as_it_should_be = subst (λ (x : List ℕ). Cut r r k a (wide t) x) (same_stored a t e) as_it_should_be
      go {a} t e (not_good c q g) = subst (λ (n : ℕ). Cut r r k a (wide t) (stored a n c)) e (not_good c q g)

  below : (a : List ℕ) → next r a ≡ next l a → next l a < 2 ^ 64 → next r a < 2 ^ 64
  below a e h = rw e h

  pub lived_raised : {a : List ℕ} → Lived l r k a → Lived r r k a
  lived_raised Lived.started = Lived.started
  lived_raised (Lived.saved {a} t v f h) =
      subst (λ (x : List ℕ). Lived r r k x) (same_stored a t (next_both v))
      (Lived.saved (wide t) (lived_raised v) (wide_table t f) (below a (next_both v) h))
  lived_raised (Lived.cut {a} {b} t v f h c) =
      Lived.cut (wide t) (lived_raised v) (wide_table t f) (below a (next_both v) h) (cut_raised t (next_both v) c)

  -- what the history allows recovery to say, it allows under the higher limit with the tables widened
  pub allows_raised : {a : List ℕ} {s : List Says} → Allows l r k a s → Allows r r k a (map (widened (r - l)) s)
  allows_raised Allows.started = Allows.started
  allows_raised (Allows.saved {a} {s} t v f h) =
      subst (λ (b : List ℕ). Allows r r k (stored a (next l a) b) (recovered (next l a) (wide t) ∷ [])) (wide_block (next l a) t (r - l))
      (subst (λ (n : ℕ). Allows r r k (stored a n (block_of n (wide t))) (recovered n (wide t) ∷ [])) e
      (Allows.saved (wide t) (allows_raised v) (wide_table t f) (below a e h)))
    where
      e : next r a ≡ next l a
      e = next_both (allows_lived l r k two low high v)
  allows_raised (Allows.cut {a} {b} {s} t v f h c) =
      subst (λ (n : ℕ). Allows r r k b (recovered n (wide t) ∷ map (widened (r - l)) s)) e
      (Allows.cut (wide t) (allows_raised v) (wide_table t f) (below a e h) (cut_raised t e c))
    where
      e : next r a ≡ next l a
      e = next_both (allows_lived l r k two low high v)

-- an area begun under one limit and carried on under a higher one: a cut there leaves what the old area said, widened, or the new table
pub raised_cut_recovers : {l r k : ℕ} {a b : List ℕ} (t : List ℕ) → 2 ≤ k → l ≤ r → r ≤ 1024 → Lived l r k a → Table r t → next r a < 2 ^ 64 → Cut r r k a t b
    → (recover r b ≡ widened (r - l) (recover l a)) ⊎ (recover r b ≡ recovered (next r a) t)
raised_cut_recovers {l} {r} {k} {a} {b} t two low high v f h c =
    go (cut_recovers r r k two (omega arith) high t (lived_raised l r k two low high v) f h c)
  where
    go : (recover r b ≡ recover r a) ⊎ (recover r b ≡ recovered (next r a) t) → (recover r b ≡ widened (r - l) (recover l a)) ⊎ (recover r b ≡ recovered (next r a) t)
    go (inl e) = inl (e ∙ raised_recovers l r k two low high v)
    go (inr e) = inr e

-- P12: the first cut in an area written under the old limit
pub old_area_cut : {k : ℕ} {a b : List ℕ} (t : List ℕ) → 2 ≤ k → Lived 128 limit k a → Table limit t → next limit a < 2 ^ 64 → Cut limit limit k a t b
    → (recover limit b ≡ widened 896 (recover 128 a)) ⊎ (recover limit b ≡ recovered (next 128 a) t)
old_area_cut {k} {a} {b} t two v f h c = go (raised_cut_recovers t two (omega arith) (omega arith) v f h c)
  where
    go : (recover limit b ≡ widened 896 (recover 128 a)) ⊎ (recover limit b ≡ recovered (next limit a) t)
        → (recover limit b ≡ widened 896 (recover 128 a)) ⊎ (recover limit b ≡ recovered (next 128 a) t)
    go (inl e) = inl e
    go (inr e) = inr (e ∙ ap (λ (n : ℕ). recovered n t) (next_both 128 limit k two (omega arith) (omega arith) v))

-- and any history that goes on from there
pub old_area_lives : {k : ℕ} {a : List ℕ} → 2 ≤ k → Lived 128 limit k a → Lived limit limit k a
old_area_lives {k} two v = lived_raised 128 limit k two (omega arith) (omega arith) v

pub old_area_allows : {k : ℕ} {a : List ℕ} {s : List Says} → 2 ≤ k → Allows 128 limit k a s → Allows limit limit k a (map (widened 896) s)
old_area_allows {k} two v = allows_raised 128 limit k two (omega arith) (omega arith) v

-- P4's count goes on from what waits in the old area's table
wide_waiting : (t : List ℕ) (d : ℕ) → waiting (t ++ replicate d 0) ≡ waiting t
unfolding waiting
wide_waiting [] d = none_waiting d
wide_waiting (x ∷ t) d = ap (λ (n : ℕ). one_if_waits x + n) (wide_waiting t d)

pub old_area_life : {k n : ℕ} {a u : List ℕ} → 2 ≤ k → Lived 128 limit k a → recover 128 a ≡ recovered n u
    → Life limit limit k a (u ++ replicate 896 0) (waiting u) 0 0
old_area_life {k} {n} {a} {u} two v e =
    subst (λ (s : ℕ). Life limit limit k a (u ++ replicate 896 0) s 0 0) (wide_waiting u 896)
    (Life.taken {n = n} (old_area_lives two v) (old_area_recovers two v ∙ ap (widened 896) e))
