-- What belongs together, test by test. Assumes nothing.
use mathlib.Core.Path.{◌≡◌, refl, sym, ◌∙◌}
use mathlib.Core.Bool.{Bool, true, false, ◌&&◌, ◌||◌, or-true, false≢true}
use mathlib.Core.List.{List, [], ◌∷◌}
use Prim.Native.Nat.{ℕ, ◌%◌}
use lib.Dec.{eqb, eqb-zero-suc, eqb-suc-zero}
use lib.ListN.{length}
use Rattle.grammar.specs.Choice.{is_empty}
use Rattle.writing.specs.Lists.{sum}
use Rattle.writing.specs.Handed.{Run, pairs, adds_up, nothing_given, row_belongs}
use Rattle.writing.proofs.Tests.{eq_when, eq_not}

-- ---- nothing handed over

pub empty_length : {A : Type 0} (l : List A) → eqb (length l) 0 ≡ is_empty l
empty_length [] = refl
empty_length (x ∷ l) = eqb-suc-zero (length l)

-- bytes for a string that is off
pub lent_off : (block : Bool) (s : List ℕ) → eqb (length s) 0 ≡ (is_empty s && (block || is_empty s))
lent_off block [] = sym (or-true block)
lent_off block (x ∷ s) = eqb-suc-zero (length s)

-- ---- pairs

pub pairs_apart : (block : Bool) (r : Run) → adds_up r ≡ false → false ≡ row_belongs block (pairs r)
pairs_apart block r e = rw e

module _ (block : Bool) (r : Run) (e : adds_up r ≡ true) where
  pub pairs_odd : (length r.lengths % 2 ≡ 0 → ⊥) → false ≡ row_belongs block (pairs r)
  pairs_odd n = rw (e, (eq_not (length r.lengths % 2) 0).1 n)

  module _ (h : length r.lengths % 2 ≡ 0) where
    even : row_belongs block (pairs r) ≡ (block || nothing_given (pairs r))
    even = rw (e, (eq_when (length r.lengths % 2) 0).1 h)

    pub pairs_in : block ≡ true → true ≡ row_belongs block (pairs r)
    pairs_in b = sym (even ∙ rw b)

    -- where lengths add up, no lengths say that there are no bytes
    pub pairs_out : block ≡ false → eqb (length r.lengths) 0 ≡ row_belongs block (pairs r)
    pairs_out b = go r.lengths r.bytes e ∙ sym (even ∙ rw b)
      where
        go : (ns s : List ℕ) → eqb (sum ns) (length s) ≡ true → eqb (length ns) 0 ≡ (is_empty s && is_empty ns)
        go [] [] i = refl
        go [] (x ∷ s) i = absurd (false≢true (sym (eqb-zero-suc (length s)) ∙ i))
        go (n ∷ ns) [] i = eqb-suc-zero (length ns)
        go (n ∷ ns) (x ∷ s) i = eqb-suc-zero (length ns)
