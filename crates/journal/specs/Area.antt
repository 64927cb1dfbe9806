-- The area of P11 of 02: starting, saving, recovering. `l` is the limit of identifiers.
use Rattle.std.specs.Prelude.{Bool, ◌&&◌, cond, List, [], ◌∷◌, ℕ, zero, suc, ◌+◌, ◌*◌, ◌-◌, ◌/◌, ◌%◌, ◌^◌, eqb, leb, ltb, length, take, drop, replicate}
use Rattle.std.proofs.Math.Option.{Option, none, some}
use Rattle.std.proofs.lemmas.List.Edits.{sets}
use Rattle.reading.specs.Refusal.{Refusal, nr}
use Rattle.journal.specs.Block.{good, number_of, table_in, block_of}

-- "a lent area of two or more whole blocks of 512 bytes"
abbrev pub count_of : List ℕ → ℕ
count_of a = length a / 512

unfoldable pub whole : List ℕ → Bool
whole a = eqb (length a % 512) 0 && leb 2 (count_of a)

unfoldable pub blocks : ℕ → List ℕ → List (List ℕ)
blocks zero a = []
blocks (suc k) a = take 512 a ∷ blocks k (drop 512 a)

-- "the good block with the highest number, the first of equals": of a block and the one found behind it
unfoldable pub newer : ℕ → List ℕ → Option (List ℕ) → Option (List ℕ)
newer l b none = cond (good l b) (some b) none
newer l b (some c) = cond (good l b && leb (number_of c) (number_of b)) (some b) (some c)

unfoldable pub latest : ℕ → List (List ℕ) → Option (List ℕ)
latest l [] = none
latest l (b ∷ bs) = newer l b (latest l bs)

unfoldable pub latest_in : ℕ → List ℕ → Option (List ℕ)
latest_in l a = latest l (blocks (count_of a) a)

-- 0 if there is none: the number after it is "first 1"
unfoldable pub highest : Option (List ℕ) → ℕ
highest none = 0
highest (some b) = number_of b

-- ---- the calls

-- what a call says, or a refusal by its number
pub data Says : Type 0 where
  started : Says
  saved : ℕ → ℕ → Says  -- the number, and the block that holds it
  recovered : ℕ → List ℕ → Says  -- the number, and the table
  refused : Refusal → Says

-- "BadArea", "JournalEmpty", "JournalEnded"
abbrev pub bad_area : Says
bad_area = refused (nr 32 [])

abbrev pub journal_empty : Says
journal_empty = refused (nr 33 [])

abbrev pub journal_ended : Says
journal_ended = refused (nr 34 [])

pub record Left : Type 0 where
  pub area : List ℕ
  pub says : Says

abbrev pub left : List ℕ → Says → Left
left a s = record { area = a; says = s }

-- "any other length gets BadArea before all else, nothing changed"; "Starting zeroes the area"
unfoldable pub start : List ℕ → Left
start a = cond (whole a) (left (replicate (length a) 0) started) (left a bad_area)

-- "number N goes to block (N - 1) mod the count of blocks, from 0"
abbrev pub place_of : List ℕ → ℕ → ℕ
place_of a n = (n - 1) % count_of a

unfoldable pub stored : List ℕ → ℕ → List ℕ → List ℕ
stored a n b = sets a (512 * place_of a n) b

-- "A save after the largest 64-bit number gets JournalEnded and stores nothing"
unfoldable pub save_after : ℕ → List ℕ → List ℕ → Left
save_after h t a =
    cond (eqb h (2 ^ 64 - 1)) (left a journal_ended) (left (stored a (h + 1) (block_of (h + 1) t)) (saved (h + 1) (place_of a (h + 1))))

-- "A save takes the number after the highest good one"
unfoldable pub save : ℕ → List ℕ → List ℕ → Left
save l t a = cond (whole a) (save_after (highest (latest_in l a)) t a) (left a bad_area)

unfoldable pub recovered_from : ℕ → Option (List ℕ) → Says
recovered_from l none = journal_empty
recovered_from l (some b) = recovered (number_of b) (table_in l b)

-- "Recovery takes the good block with the highest number .., or answers JournalEmpty"
unfoldable pub recover : ℕ → List ℕ → Says
recover l a = cond (whole a) (recovered_from l (latest_in l a)) bad_area

-- one block alone, by the same words: its table if it is good
unfoldable pub look_at : ℕ → List ℕ → Says
look_at l b = cond (good l b) (recovered (number_of b) (table_in l b)) journal_empty

unfoldable pub look : ℕ → List ℕ → ℕ → Says
look l a i = cond (whole a) (cond (ltb i (count_of a)) (look_at l (take 512 (drop (i * 512) a))) journal_empty) bad_area
