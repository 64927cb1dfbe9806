-- A number that no entry of a table has is not found there. Assumes nothing.
use mathlib.Core.Path.{◌≡◌, refl, sym}
use mathlib.Core.Bool.{false}
use mathlib.Core.Option.{none}
use mathlib.Core.List.{List, [], ◌∷◌}
use Prim.Native.Nat.{ℕ}
use borrow.Author.Tests.{ne_eqb}
use Rattle.grammar.specs.Choice.{is_in, lookup}

-- P, and i is the number of no entry: what is known after the arms of a `match`, in the order of the table
abbrev pub Absent : {A : Type 0} → Type 0 → List (ℕ × A) → ℕ → Type 0
Absent P [] i = P
Absent P (p ∷ ps) i = Absent (P × (i ≡ p.0 → ⊥)) ps i

absent : {A : Type 0} (P : Type 0) (table : List (ℕ × A)) (i : ℕ) → Absent P table i → P × (lookup table i ≡ none)
absent P [] i h = (h, refl)
absent P (p ∷ ps) i h =
    let ((q, ne), e) = absent (P × (i ≡ p.0 → ⊥)) ps i h in
    (q, rw (ne_eqb p.0 i (λ e'. ne (sym e'))) e)

pub lookup_absent : {A : Type 0} (table : List (ℕ × A)) (i : ℕ) → Absent (Unit {0}) table i → lookup table i ≡ none
lookup_absent table i h = (absent (Unit {0}) table i h).1

-- the same of a list of numbers
abbrev pub Unlisted : Type 0 → List ℕ → ℕ → Type 0
Unlisted P [] i = P
Unlisted P (c ∷ cs) i = Unlisted (P × (i ≡ c → ⊥)) cs i

outside : (P : Type 0) (cs : List ℕ) (i : ℕ) → Unlisted P cs i → P × (is_in i cs ≡ false)
outside P [] i h = (h, refl)
outside P (c ∷ cs) i h =
    let ((q, ne), e) = outside (P × (i ≡ c → ⊥)) cs i h in
    (q, rw (ne_eqb i c ne) e)

pub unlisted : (cs : List ℕ) (i : ℕ) → Unlisted (Unit {0}) cs i → is_in i cs ≡ false
unlisted cs i h = (outside (Unit {0}) cs i h).1
