-- What recovery gives is the good block with the highest number, the first of equals, in any area; and such a block is what it gives.
-- Assumes nothing.
use mathlib.Core.Path.{◌≡◌, refl, sym, ap, ap₂, ◌∙◌, subst}
use mathlib.Core.Bool.{Bool, true, false, cond}
use mathlib.Core.List.{List, []}
use mathlib.Core.Option.{Option, none, some}
use Prim.Native.Nat.{ℕ, ◌<◌, ◌≤◌}
use native.Mathlib.Omega.{arith}
use lib.ListN.{get_or}
use Rattle.journal.specs.Block.{good, number_of, table_in}
use Rattle.journal.specs.Area.{whole, blocks, count_of, latest, latest_in, recover, recovered_from, Says, recovered, journal_empty, bad_area}
use Rattle.journal.specs.First.{block_at, First}
use Rattle.journal.proofs.Latest.{Found, found, nothing, none_good, lead_is}
use Rattle.journal.proofs.Places.{length_blocks, block_of_blocks}

recovered_number : {m n : ℕ} {t u : List ℕ} → recovered m t ≡ recovered n u → m ≡ n
recovered_number e = cc

recovered_table : {m n : ℕ} {t u : List ℕ} → recovered m t ≡ recovered n u → t ≡ u
recovered_table e = cc

not_recovered : {A : Type 0} {s : Says} {n : ℕ} {t : List ℕ} → s ≡ journal_empty → s ≡ recovered n t → A
not_recovered e f = let z : ◌≡◌ {A = ℕ} 0 1 = cc in absurd (omega (arith, z))

not_bad : {A : Type 0} {s : Says} {n : ℕ} {t : List ℕ} → s ≡ bad_area → s ≡ recovered n t → A
not_bad e f = let z : ◌≡◌ {A = ℕ} 0 1 = cc in absurd (omega (arith, z))

first_of_lem : (l : ℕ) (a c : List ℕ) → Found l (blocks (count_of a) a) c → First l a (number_of c) (table_in l c)
first_of_lem l a c f = record {
  at = f.at;
  inside = within;
  fine = ap (good l) is ∙ f.fine;
  number = ap number_of is;
  table = ap (table_in l) is;
  most = λ j h g. subst (λ (x : List ℕ). number_of x ≤ number_of c) (block_of_blocks (count_of a) a j h)
      (f.most j (rw (length_blocks (count_of a) a) h) (ap (good l) (block_of_blocks (count_of a) a j h) ∙ g));
  first = λ j h g. let i : j < count_of a = omega (arith, h, within) in
      subst (λ (x : List ℕ). number_of x < number_of c) (block_of_blocks (count_of a) a j i) (f.first j h (ap (good l) (block_of_blocks (count_of a) a j i) ∙ g));
}
  where
    within : f.at < count_of a
    within = rw (length_blocks (count_of a) a) at f.inside

    is : block_at a f.at ≡ c
    is = sym (block_of_blocks (count_of a) a f.at within) ∙ f.is

-- "Recovery takes the good block with the highest number, the first of equals"
pub recovers_first : (l : ℕ) (a : List ℕ) (n : ℕ) (t : List ℕ) → recover l a ≡ recovered n t → First l a n t
unfolding recover recovered_from latest_in
recovers_first l a n t = go (whole a) (latest l (blocks (count_of a) a)) refl
  where
    go : (w : Bool) (m : Option (List ℕ)) → latest l (blocks (count_of a) a) ≡ m → cond w (recovered_from l m) bad_area ≡ recovered n t → First l a n t
    go false m p e = not_bad refl e
    go true none p e = not_recovered refl e
    go true (some c) p e =
        subst (First l a n) (recovered_table e)
        (subst (λ (x : ℕ). First l a x (table_in l c)) (recovered_number e) (first_of_lem l a c (found l (blocks (count_of a) a) c p)))

pub first_recovers : (l : ℕ) (a : List ℕ) (n : ℕ) (t : List ℕ) → whole a ≡ true → First l a n t → recover l a ≡ recovered n t
unfolding recover recovered_from latest_in
first_recovers l a n t w f =
    rw (w, latest_at) (ap₂ (λ (x : ℕ) (y : List ℕ). recovered x y) f.number f.table)
  where
    is : (j : ℕ) → j < count_of a → get_or (blocks (count_of a) a) j [] ≡ block_at a j
    is j h = block_of_blocks (count_of a) a j h

    high : number_of (get_or (blocks (count_of a) a) f.at []) ≡ n
    high = ap number_of (is f.at f.inside) ∙ f.number

    latest_at : latest l (blocks (count_of a) a) ≡ some (block_at a f.at)
    latest_at =
        lead_is l (blocks (count_of a) a) f.at (rw (length_blocks (count_of a) a) f.inside) (ap (good l) (is f.at f.inside) ∙ f.fine)
        (λ j h g. let i : j < count_of a = rw (length_blocks (count_of a) a) at h in
        rw (high, is j i) (f.most j i (sym (ap (good l) (is j i)) ∙ g)))
        (λ j h g. let i : j < count_of a = omega (arith, h, f.inside) in
        rw (high, is j i) (f.first j h (sym (ap (good l) (is j i)) ∙ g)))
        ∙ ap some (is f.at f.inside)

-- "or answers JournalEmpty": exactly when no block is good
pub empty_when : (l : ℕ) (a : List ℕ) → whole a ≡ true → recover l a ≡ journal_empty → (j : ℕ) → j < count_of a → good l (block_at a j) ≡ false
unfolding recover recovered_from latest_in
empty_when l a w e j h = go (latest l (blocks (count_of a) a)) refl (rw w at e)
  where
    go : (m : Option (List ℕ)) → latest l (blocks (count_of a) a) ≡ m → recovered_from l m ≡ journal_empty → good l (block_at a j) ≡ false
    go none p e = sym (ap (good l) (block_of_blocks (count_of a) a j h)) ∙ nothing l (blocks (count_of a) a) p j (rw (length_blocks (count_of a) a) h)
    go (some c) p e = not_recovered e refl

pub when_empty : (l : ℕ) (a : List ℕ) → whole a ≡ true → ((j : ℕ) → j < count_of a → good l (block_at a j) ≡ false) → recover l a ≡ journal_empty
unfolding recover recovered_from latest_in
when_empty l a w h = rw (w, none_good l (blocks (count_of a) a) (λ j g. none_there j (rw (length_blocks (count_of a) a) at g)))
  where
    none_there : (j : ℕ) → j < count_of a → good l (get_or (blocks (count_of a) a) j []) ≡ false
    none_there j i = ap (good l) (block_of_blocks (count_of a) a j i) ∙ h j i
