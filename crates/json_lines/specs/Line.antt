-- The lines of docs/DESK.md, 'As JSON', that are names and numbers alone. Assumes nothing.
use Rattle.std.specs.Prelude.{List, [], ◌∷◌, ◌++◌, ℕ}
use Prim.Native.String.{String}
use Rattle.records.specs.AsNumbers.{told_error, row_of, values_of}
use Rattle.records.specs.declared.error.Error.{Error}
use Rattle.records.specs.Ascii.{codes_of}
use Rattle.refusal_names.specs.Names.{name_of}
use Rattle.desk_render.specs.Shown.{decimal_of}
use Rattle.json_text.specs.Value.{quoted, joined, array, member, object}

-- a member that is a number
abbrev pub number_is : String → ℕ → List ℕ
number_is name n = member (codes_of name) (decimal_of n)

-- a member that is a word, which has nothing to escape
abbrev pub word_is : String → List ℕ → List ℕ
word_is name w = member (codes_of name) (34 ∷ (w ++ (34 ∷ [])))

-- docs/DESK.md: what every object begins with: "index", "offset", "kind", "taken"
abbrev pub head_of : ℕ → ℕ → List ℕ → ℕ → List (List ℕ)
head_of index offset kind taken = number_is "index" index ∷ number_is "offset" offset ∷ word_is "kind" kind ∷ number_is "taken" taken ∷ []

-- the same, before the fields of the kind
unfoldable pub head_text : ℕ → ℕ → List ℕ → ℕ → List ℕ
head_text index offset kind taken = 123 ∷ joined (head_of index offset kind taken)

-- a number for each
abbrev pub numbers : List ℕ → List (List ℕ)
numbers [] = []
numbers (n ∷ ns) = decimal_of n ∷ numbers ns

-- docs/DESK.md: of a refusal "number", "name", "values"
abbrev pub refusal_by : ℕ → List ℕ → List ℕ → List (List ℕ)
refusal_by n name vs = number_is "number" n ∷ word_is "name" name ∷ member (codes_of "values") (array (numbers vs)) ∷ []

-- those of an error
abbrev pub refusal_of : Error → List (List ℕ)
refusal_of e = refusal_by (row_of (told_error e)) (name_of e) (values_of (told_error e))

-- number and name, behind other fields and up to the quote behind the name
abbrev pub refusal_start : Error → List ℕ
refusal_start e = ((codes_of ",\"number\":" ++ decimal_of (row_of (told_error e))) ++ codes_of ",\"name\":\"") ++ name_of e

-- all three, behind other fields and up to the end of the line
unfoldable pub refusal_text : Error → List ℕ
refusal_text e = 44 ∷ (joined (refusal_of e) ++ (125 ∷ 10 ∷ []))

-- an object, and the end of its line
unfoldable pub line_of : List (List ℕ) → List ℕ
line_of ms = object ms ++ (10 ∷ [])

-- docs/DESK.md: the line of a refusal
unfoldable pub refused_line : ℕ → ℕ → Error → ℕ → List ℕ
unfolding line_of
refused_line index offset e taken = line_of (head_of index offset (codes_of "refused") taken ++ refusal_of e)

-- docs/DESK.md: the line of a frame that is passed over, with the packet type of its first byte
unfoldable pub skipped_line : ℕ → ℕ → ℕ → ℕ → List ℕ
unfolding line_of
skipped_line index offset taken kind = line_of (head_of index offset (codes_of "skipped") taken ++ (number_is "type" kind ∷ []))
