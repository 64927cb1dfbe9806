-- The table of well-formed sequences, held against a second spelling: of all 256 first bytes, with all cells, by computation. Assumes nothing.
use mathlib.Core.Path.{◌≡◌, refl}
use mathlib.Core.Option.{Option, none, some}
use mathlib.Core.List.{List, [], ◌∷◌, ◌++◌, map}
use lib.ListN.{replicate}
use Rattle.grammar.specs.Text.{Range, rows, row_at}
use Rattle.grammar.proofs.Tables.{count}

-- from byte 0 on: how many first bytes ask for the same cells
abbrev asked : List (Option (List Range))
asked =
    replicate 1 none
    ++ replicate 127 (some [])
    ++ replicate 66 none
    ++ replicate 30 (some ((128, 191) ∷ []))
    ++ replicate 1 (some ((160, 191) ∷ (128, 191) ∷ []))
    ++ replicate 12 (some ((128, 191) ∷ (128, 191) ∷ []))
    ++ replicate 1 (some ((128, 159) ∷ (128, 191) ∷ []))
    ++ replicate 2 (some ((128, 191) ∷ (128, 191) ∷ []))
    ++ replicate 1 (some ((144, 191) ∷ (128, 191) ∷ (128, 191) ∷ []))
    ++ replicate 3 (some ((128, 191) ∷ (128, 191) ∷ (128, 191) ∷ []))
    ++ replicate 1 (some ((128, 143) ∷ (128, 191) ∷ (128, 191) ∷ []))
    ++ replicate 11 none

first_bytes : map (row_at rows) (count 256 0) ≡ asked
unfolding rows
first_bytes = refl
