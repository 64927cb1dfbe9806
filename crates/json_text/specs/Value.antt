-- The values of JSON that a line is made of, RFC 8259, sections 4, 5 and 7, with no space between their parts. Assumes nothing.
use Rattle.std.specs.Prelude.{List, [], ◌∷◌, ◌++◌, ℕ}
use Rattle.json_text.specs.Text.{escaped_of, each}

-- RFC 8259, 7: string = quotation-mark *char quotation-mark
abbrev pub quoted : List ℕ → List ℕ
quoted s = 34 ∷ (each escaped_of s ++ (34 ∷ []))

-- RFC 8259, 4 and 5: "A single comma separates" a value or member from the next
abbrev pub joined : List (List ℕ) → List ℕ
joined [] = []
joined (v ∷ []) = v
joined (v ∷ w ∷ vs) = v ++ (44 ∷ joined (w ∷ vs))

-- RFC 8259, 5: an array, of values that are spelled
abbrev pub array : List (List ℕ) → List ℕ
array vs = 91 ∷ (joined vs ++ (93 ∷ []))

-- RFC 8259, 4: member = string name-separator value
abbrev pub member : List ℕ → List ℕ → List ℕ
member name v = quoted name ++ (58 ∷ v)

-- RFC 8259, 4: an object, of members
abbrev pub object : List (List ℕ) → List ℕ
object ms = 123 ∷ (joined ms ++ (125 ∷ []))
