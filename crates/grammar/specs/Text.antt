-- Text: the Unicode table of well-formed byte sequences. Assumes nothing.
use Rattle.std.specs.Prelude.{Bool, false, cond, List, [], ◌∷◌, ℕ, leb}
use Rattle.std.proofs.Math.Option.{Option, none, some}
use Rattle.grammar.specs.Gram.{Nothing, Never, Map, Only, Then, Many}
use Rattle.grammar.specs.Number.{Byte}

-- Unicode, table 3-7: a cell, the least and the greatest byte
abbrev pub Range : Type 0
Range = ℕ × ℕ

-- x lies in the cell
abbrev pub in_range : Range → ℕ → Bool
in_range r x = cond (leb r.0 x) (leb x r.1) false

-- Unicode, table 3-7: a row, the first byte and the bytes after it
abbrev pub TextRow : Type 0
TextRow = Range × List Range

-- Unicode, table 3-7: the cell 80..BF, which most rows end with
abbrev tail : Range
tail = (0x80, 0xBF)

-- 01, grammar: "Unicode table of well-formed sequences" (Unicode, table 3-7), row by row; 02, P9: "Text holding U+0000 gets TopicNotUtf8", so the first begins at 01
unfoldable pub rows : List TextRow
rows =
    ((0x01, 0x7F), [])
    ∷ ((0xC2, 0xDF), tail ∷ [])
    ∷ ((0xE0, 0xE0), (0xA0, 0xBF) ∷ tail ∷ [])
    ∷ ((0xE1, 0xEC), tail ∷ tail ∷ [])
    ∷ ((0xED, 0xED), (0x80, 0x9F) ∷ tail ∷ [])
    ∷ ((0xEE, 0xEF), tail ∷ tail ∷ [])
    ∷ ((0xF0, 0xF0), (0x90, 0xBF) ∷ tail ∷ tail ∷ [])
    ∷ ((0xF1, 0xF3), tail ∷ tail ∷ tail ∷ [])
    ∷ ((0xF4, 0xF4), (0x80, 0x8F) ∷ tail ∷ tail ∷ [])
    ∷ []

-- Unicode, table 3-7: what the row of a first byte asks for after it
abbrev pub row_at : List TextRow → ℕ → Option (List Range)
row_at [] x = none
row_at (r ∷ rs) x = cond (in_range r.0 x) (some r.1) (row_at rs x)

-- a byte before others
abbrev pub cons : ℕ × List ℕ → List ℕ
cons p = p.0 ∷ p.1

-- Unicode, table 3-7: a byte in each cell
abbrev pub Follow : List Range → List ℕ → List ℕ → Type 0
Follow [] = Nothing []
Follow (r ∷ rs) = Map cons (Then (Only (in_range r) Byte) (λ _. Follow rs))

-- Unicode, table 3-7: a first byte of no row begins no character
abbrev pub Rest : Option (List Range) → List ℕ → List ℕ → Type 0
Rest none = Never
Rest (some rs) = Follow rs

-- Unicode: a character, a first byte and the bytes that its row asks for
abbrev pub Char : List ℕ → List ℕ → Type 0
Char = Map cons (Then Byte (λ x. Rest (row_at rows x)))

-- 01, grammar: "text must be UTF-8": the bytes are characters, one after the other
abbrev pub Utf8 : List ℕ → Type 0
Utf8 b = (cs : List (List ℕ)) × Many Char cs b
