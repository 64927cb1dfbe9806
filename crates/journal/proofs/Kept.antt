-- What holds of an area that was started and that only saves wrote to: each good block stands where its number goes.
-- Assumes nothing.
use mathlib.Core.Path.{◌≡◌, refl, sym, ap, ◌∙◌, subst}
use mathlib.Core.Bool.{Bool, true, false}
use mathlib.Core.List.{List, [], ◌++◌}
use mathlib.Core.Option.{Option, none, some}
use Prim.Native.Nat.{ℕ, zero, suc, ◌+◌, ◌*◌, ◌-◌, ◌%◌, ◌^◌, ◌<◌, ◌≤◌}
use native.Mathlib.Nat.{not-suc-le-zero, mod-lt}
use native.Mathlib.Omega.{arith}
use borrow.Author.Tests.{eqb-true, eqb-false}
use lib.Arith.{lt_of_le-ne}
use lib.Dec.{eqb}
use lib.ListN.{length, get_or, take, drop, set, replicate, length-replicate, replicate-append-replicate}
use lib.Seq.{sets, get_or-set_other, take_at, drop_at}
use Rattle.journal.specs.Block.{good, number_of, big_endian_from}
use Rattle.journal.specs.Area.{blocks, latest, latest_in, highest, place_of, stored}
use Rattle.journal.specs.History.{next}
use Rattle.journal.proofs.Latest.{Found, found, nothing, none_good, lead}
use Rattle.journal.proofs.Limits.{number_not_zero, zero_not_good}
use Rattle.journal.proofs.Places.{length_blocks, blocks_set, count_is, length_stored, get_set, next_apart}

abbrev at : ℕ → List ℕ → ℕ → List ℕ
at k a j = get_or (blocks k a) j []

pub record Kept (l r k : ℕ) (a : List ℕ) : Type 0 where
  pub size : length a ≡ k * 512
  -- each good block stands where its number goes
  pub placed : (j : ℕ) → j < k → good l (get_or (blocks k a) j []) ≡ true → (number_of (get_or (blocks k a) j []) - 1) % k ≡ j
  pub small : (j : ℕ) → j < k → good l (get_or (blocks k a) j []) ≡ true → number_of (get_or (blocks k a) j []) < 2 ^ 64
  -- and no block is good under the raised limit alone
  pub agree : (j : ℕ) → j < k → good r (get_or (blocks k a) j []) ≡ good l (get_or (blocks k a) j [])

false_true : {A : Type 0} {b : Bool} → b ≡ false → b ≡ true → A
false_true e f = let z : ◌≡◌ {A = ℕ} 0 1 = cc in absurd (omega arith)

-- ---- a started area

zeros : ℕ → List ℕ
zeros n = replicate n 0

zero_block : (k : ℕ) → (take 512 (zeros (suc k * 512)) ≡ zeros 512) × (drop 512 (zeros (suc k * 512)) ≡ zeros (k * 512))
unfolding zeros
zero_block k = (
  ap (take 512) s ∙ take_at (zeros 512) (zeros (k * 512)) 512 (length-replicate {A = ℕ} 512 0),
  ap (drop 512) s ∙ drop_at (zeros 512) (zeros (k * 512)) 512 (length-replicate {A = ℕ} 512 0),
)
  where
    s : zeros (suc k * 512) ≡ zeros 512 ++ zeros (k * 512)
    s = (let e : suc k * 512 ≡ 512 + k * 512 = omega arith in ap (λ (n : ℕ). replicate {A = ℕ} n 0) e) ∙ sym (replicate-append-replicate 512 (k * 512) 0)

zero_blocks : (k j : ℕ) → j < k → get_or (blocks k (replicate (k * 512) 0)) j [] ≡ replicate 512 0
unfolding blocks zeros
zero_blocks zero j h = absurd (not-suc-le-zero h)
zero_blocks (suc k) zero h = (zero_block k).0
zero_blocks (suc k) (suc j) h = ap (λ (a : List ℕ). get_or (blocks k a) j []) (zero_block k).1 ∙ zero_blocks k j (omega arith)

blank : number_of (replicate 512 0) ≡ 0
unfolding number_of big_endian_from
blank = refl

pub none_at_start : (l k j : ℕ) → j < k → good l (get_or (blocks k (replicate (k * 512) 0)) j []) ≡ false
none_at_start l k j h = ap (good l) (zero_blocks k j h) ∙ zero_not_good l (replicate 512 0) blank

pub kept_start : (l r k : ℕ) → Kept l r k (replicate (k * 512) 0)
kept_start l r k = record {
  size = length-replicate {A = ℕ} (k * 512) 0;
  placed = λ j h g. false_true (none_at_start l k j h) g;
  small = λ j h g. false_true (none_at_start l k j h) g;
  agree = λ j h. none_at_start r k j h ∙ sym (none_at_start l k j h);
}

-- ---- a block is stored

pub latest_is : (l k : ℕ) (a : List ℕ) → length a ≡ k * 512 → latest_in l a ≡ latest l (blocks k a)
unfolding latest_in
latest_is l k a e = ap (λ (n : ℕ). latest l (blocks n a)) (count_is k a e)

pub stored_blocks : (k : ℕ) (a : List ℕ) (n : ℕ) (b : List ℕ) → length a ≡ k * 512 → length b ≡ 512 → 0 < k
    → blocks k (stored a n b) ≡ set (blocks k a) ((n - 1) % k) b
unfolding stored
stored_blocks k a n b e f h =
    ap (λ (m : ℕ). blocks k (sets a (512 * ((n - 1) % m)) b)) (count_is k a e)
    ∙ blocks_set k a ((n - 1) % k) b f (mod-lt (n - 1) h) e

pub stored_length : (a : List ℕ) (n : ℕ) (b : List ℕ) → length (stored a n b) ≡ length a
unfolding stored
stored_length a n b = length_stored a (512 * place_of a n) b

-- what was found is the highest
pub bounded : (l k : ℕ) (a : List ℕ) → length a ≡ k * 512 → (j : ℕ) → j < k → good l (get_or (blocks k a) j []) ≡ true
    → number_of (get_or (blocks k a) j []) ≤ highest (latest_in l a)
unfolding highest
bounded l k a e j h g = rw (latest_is l k a e) (go (latest l (blocks k a)) refl)
  where
    inside : j < length (blocks k a)
    inside = rw (length_blocks k a) h

    go : (m : Option (List ℕ)) → latest l (blocks k a) ≡ m → number_of (get_or (blocks k a) j []) ≤ highest m
    go none p = false_true (nothing l (blocks k a) p j inside) g
    go (some c) p = (found l (blocks k a) c p).most j inside g

module _ (l r k : ℕ) (a b : List ℕ) (two : 2 ≤ k) (kept : Kept l r k a) (long : length b ≡ 512) where
  -- where the next number goes
  place : ℕ
  place = highest (latest_in l a) % k

  inside : (j : ℕ) → j < k → j < length (blocks k a)
  inside j h = rw (length_blocks k a) h

  now_blocks : blocks k (stored a (next l a) b) ≡ set (blocks k a) place b
  unfolding place
  now_blocks =
      stored_blocks k a (next l a) b kept.size long (omega arith)
      ∙ (let e : next l a - 1 ≡ highest (latest_in l a) = omega arith in ap (λ (n : ℕ). set (blocks k a) (n % k) b) e)

  place_in : place < k
  unfolding place
  place_in = mod-lt (highest (latest_in l a)) (omega arith)

  at_place : get_or (blocks k (stored a (next l a) b)) place [] ≡ b
  at_place = ap (λ (x : List (List ℕ)). get_or x place []) now_blocks ∙ get_set (blocks k a) place b (inside place place_in)

  elsewhere : (j : ℕ) → (j ≡ place → ⊥) → get_or (blocks k (stored a (next l a) b)) j [] ≡ get_or (blocks k a) j []
  elsewhere j h = ap (λ (x : List (List ℕ)). get_or x j []) now_blocks ∙ get_or-set_other (blocks k a) place j b [] h

  -- a fact of every block: of b at its place, and of the others as they were
  over : (P : ℕ → List ℕ → Type 0) → P place b → ((j : ℕ) → j < k → (j ≡ place → ⊥) → P j (get_or (blocks k a) j []))
      → (j : ℕ) → j < k → P j (get_or (blocks k (stored a (next l a) b)) j [])
  over P p q j h = go (eqb j place) refl
    where
      go : (x : Bool) → eqb j place ≡ x → P j (get_or (blocks k (stored a (next l a) b)) j [])
      go true e =
          let f : j ≡ place = eqb-true j place e in
          subst (λ (i : ℕ). P i (get_or (blocks k (stored a (next l a) b)) i [])) (sym f) (subst (λ (c : List ℕ). P place c) (sym at_place) p)
      go false e = let f : j ≡ place → ⊥ = eqb-false j place e in subst (λ (c : List ℕ). P j c) (sym (elsewhere j f)) (q j h f)

  pub kept_stored : (good l b ≡ true → (number_of b ≡ next l a) × (next l a < 2 ^ 64)) → good r b ≡ good l b → Kept l r k (stored a (next l a) b)
  unfolding place
  kept_stored n g = record {
    size = stored_length a (next l a) b ∙ kept.size;
    placed = over (λ j c. good l c ≡ true → (number_of c - 1) % k ≡ j)
        (λ f. let e : number_of b - 1 ≡ highest (latest_in l a) = omega (arith, (n f).0) in ap (λ (m : ℕ). m % k) e)
        (λ j h f. kept.placed j h);
    small = over (λ j c. good l c ≡ true → number_of c < 2 ^ 64) (λ f. omega (arith, (n f).0, (n f).1)) (λ j h f. kept.small j h);
    agree = over (λ j c. good r c ≡ good l c) g (λ j h f. kept.agree j h);
  }

  now_length : length (blocks k (stored a (next l a) b)) ≡ k
  now_length = length_blocks k (stored a (next l a) b)

  now_latest : latest_in l (stored a (next l a) b) ≡ latest l (blocks k (stored a (next l a) b))
  now_latest = latest_is l k (stored a (next l a) b) (stored_length a (next l a) b ∙ kept.size)

  -- a good block with the next number is the latest
  pub latest_new : good l b ≡ true → number_of b ≡ next l a → latest_in l (stored a (next l a) b) ≡ some b
  latest_new g n =
      now_latest
      ∙ lead l (blocks k (stored a (next l a) b)) place (rw now_length place_in) (ap (good l) at_place ∙ g) below
      ∙ ap some at_place
    where
      below : (j : ℕ) → j < length (blocks k (stored a (next l a) b)) → (j ≡ place → ⊥) → good l (get_or (blocks k (stored a (next l a) b)) j []) ≡ true
          → number_of (get_or (blocks k (stored a (next l a) b)) j []) < number_of (get_or (blocks k (stored a (next l a) b)) place [])
      below j h f q =
          let i : j < k = rw now_length at h in
          let u : number_of (get_or (blocks k a) j []) ≤ highest (latest_in l a) = bounded l k a kept.size j i (ap (good l) (sym (elsewhere j f)) ∙ q) in
          let v : number_of (get_or (blocks k (stored a (next l a) b)) j []) ≡ number_of (get_or (blocks k a) j []) = ap number_of (elsewhere j f) in
          let w : number_of (get_or (blocks k (stored a (next l a) b)) place []) ≡ number_of b = ap number_of at_place in
          omega (arith, u, v, w, n)

  -- a block that is not good leaves the latest as it was: the latest stands elsewhere
  pub latest_old : good l b ≡ false → latest_in l (stored a (next l a) b) ≡ latest_in l a
  unfolding place highest
  latest_old g = now_latest ∙ go (latest l (blocks k a)) refl ∙ sym (latest_is l k a kept.size)
    where
      go : (m : Option (List ℕ)) → latest l (blocks k a) ≡ m → latest l (blocks k (stored a (next l a) b)) ≡ latest l (blocks k a)
      go none p =
          none_good l (blocks k (stored a (next l a) b))
          (λ j h. over (λ i c. good l c ≡ false) g (λ i q f. nothing l (blocks k a) p i (inside i q)) j (rw now_length at h))
          ∙ sym p
      go (some c) p =
          lead l (blocks k (stored a (next l a) b)) f.at (rw now_length (rw (length_blocks k a) at f.inside))
          (ap (good l) same ∙ f.fine)
          (λ j h n q. subst (λ (x : List ℕ). number_of (get_or (blocks k (stored a (next l a) b)) j []) < number_of x) (sym same) (below j (rw now_length at h) n q))
          ∙ ap some same ∙ sym p
        where
          f : Found l (blocks k a) c
          f = found l (blocks k a) c p

          in_k : f.at < k
          in_k = rw (length_blocks k a) at f.inside

          -- it stands where its number goes
          at_home : (number_of c - 1) % k ≡ f.at
          at_home = ap (λ (x : List ℕ). (number_of x - 1) % k) (sym f.is) ∙ kept.placed f.at in_k (ap (good l) f.is ∙ f.fine)

          high : highest (latest_in l a) ≡ number_of c
          high = ap highest (latest_is l k a kept.size ∙ p)

          apart : f.at ≡ place → ⊥
          apart e =
              let n : 0 < number_of c = number_not_zero l c f.fine in
              let q : number_of c - 1 + 1 ≡ number_of c = omega (arith, n) in
              next_apart k (number_of c - 1) two (ap (λ (m : ℕ). m % k) (q ∙ sym high) ∙ sym e ∙ sym at_home)

          same : get_or (blocks k (stored a (next l a) b)) f.at [] ≡ c
          same = elsewhere f.at apart ∙ f.is

          lower : (j : ℕ) → j < k → (j ≡ f.at → ⊥) → good l (get_or (blocks k a) j []) ≡ true → number_of (get_or (blocks k a) j []) < number_of c
          lower j h n q =
              lt_of_le-ne (f.most j (inside j h) q)
              (λ e. n (sym (kept.placed j h q) ∙ ap (λ (m : ℕ). (m - 1) % k) e ∙ at_home))

          below : (j : ℕ) → j < k → (j ≡ f.at → ⊥) → good l (get_or (blocks k (stored a (next l a) b)) j []) ≡ true
              → number_of (get_or (blocks k (stored a (next l a) b)) j []) < number_of c
          below = over (λ i x. (i ≡ f.at → ⊥) → good l x ≡ true → number_of x < number_of c) (λ n q. false_true g q) (λ i h e n q. lower i h n q)
