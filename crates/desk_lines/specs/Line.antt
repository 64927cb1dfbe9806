-- The lines of docs/DESK.md for a refusal and for a frame that is too long. Assumes nothing.
use Rattle.std.specs.Prelude.{◌≡◌, List, [], ◌∷◌, ◌++◌, ℕ, ◌+◌, length}
use Rattle.std.proofs.lemmas.List.Edits.{sets}
use Rattle.records.specs.AsNumbers.{told_error, row_of, values_of}
use Rattle.records.specs.declared.error.Error.{Error}
use Rattle.records.specs.Ascii.{codes_of}
use Rattle.refusal_names.specs.Names.{name_of}
use Rattle.desk_render.specs.Shown.{decimal_of}

-- xs stand from `at` on, as far as there is room, no other byte was changed, and `next` is the index behind them
pub record PutAt (before : List ℕ) (at : ℕ) (xs after : List ℕ) (next : ℕ) : Type 0 where
  pub stores : after ≡ sets before at xs
  pub behind : next ≡ at + length xs

-- docs/DESK.md: a refusal's values, "parted by commas, no brackets where there are none"; 01 has two at most
abbrev pub values_text : List ℕ → List ℕ
values_text [] = []
values_text (m ∷ []) = (codes_of "(" ++ decimal_of m) ++ codes_of ")"
values_text (m ∷ n ∷ vs) = ((codes_of "(" ++ decimal_of m) ++ (codes_of "," ++ decimal_of n)) ++ codes_of ")"

-- docs/DESK.md: "OFFSET refused NUMBER "
abbrev pub refused_start : ℕ → Error → List ℕ
refused_start offset e = (decimal_of offset ++ (codes_of " refused " ++ decimal_of (row_of (told_error e)))) ++ codes_of " "

-- docs/DESK.md: " taken=N" and the end of the line
abbrev pub taken_text : ℕ → List ℕ
taken_text n = (codes_of " taken=" ++ decimal_of n) ++ (10 ∷ [])

-- docs/DESK.md: "OFFSET refused NUMBER NAME(VALUES) taken=N"
abbrev pub refused_line : ℕ → Error → ℕ → List ℕ
refused_line offset e taken = ((refused_start offset e ++ name_of e) ++ values_text (values_of (told_error e))) ++ taken_text taken

-- docs/DESK.md: "A frame that fills the buffer .. and still lacks bytes is said so there with its offset and size"
abbrev pub too_long_at : ℕ → ℕ → List ℕ
too_long_at offset size = (codes_of "desk: the frame at offset " ++ decimal_of offset) ++ (codes_of " has " ++ decimal_of size)

-- the whole line, with the size of the buffer
abbrev pub too_long_line : ℕ → ℕ → ℕ → List ℕ
too_long_line offset size most = (too_long_at offset size ++ (codes_of " bytes, and the buffer holds " ++ decimal_of most)) ++ (codes_of ": stopped there" ++ (10 ∷ []))
