-- Empty parts, test by test. Assumes nothing.
use mathlib.Core.Path.{◌≡◌, refl, sym, ◌∙◌}
use mathlib.Core.Bool.{Bool, true, false, ◌&&◌}
use mathlib.Core.List.{List, [], ◌∷◌, ◌++◌}
use Prim.Native.Nat.{ℕ}
use lib.Dec.{eqb}
use lib.ListN.{length}
use Rattle.grammar.specs.Choice.{is_empty, all}
use Rattle.writing.proofs.Tests.{eq_when, eq_not}
use Rattle.write_belongs.proofs.Laws.{empty_length}

module _ {A : Type 0} (l : List A) where
  pub some_lent : (length l ≡ 0 → ⊥) → is_empty l ≡ false
  some_lent n = sym (empty_length l) ∙ (eq_not (length l) 0).1 n

  pub none_lent : length l ≡ 0 → is_empty l ≡ true
  none_lent e = sym (empty_length l) ∙ (eq_when (length l) 0).1 e

-- the last part of some
pub last_lent : (l : List ℕ) → eqb (length l) 0 ≡ all is_empty (l ∷ [])
last_lent [] = refl
last_lent (x ∷ l) = empty_length (x ∷ l)

all_joined : (x y : List (List ℕ)) → (all is_empty x && all is_empty y) ≡ all is_empty (x ++ y)
all_joined [] y = refl
all_joined ([] ∷ x) y = all_joined x y
all_joined ((n ∷ z) ∷ x) y = refl

-- the parts of two kinds
pub joined : (x y : List (List ℕ)) {a b : Bool} → a ≡ all is_empty x → b ≡ all is_empty y → (a && b) ≡ all is_empty (x ++ y)
joined x y e f = rw (e, f) (all_joined x y)
