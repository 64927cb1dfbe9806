-- Text between quotes: the characters of UTF-8 stand as they are, but for some, and every other byte as `desk_render` shows it (docs/DESK.md). Assumes nothing.
use Rattle.std.specs.Prelude.{◌≡◌, Bool, true, false, cond, ◌||◌, List, [], ◌∷◌, ◌++◌, ℕ, zero, suc, ◌+◌, ◌-◌, eqb, leb, length, get_or}
use Rattle.std.proofs.lemmas.List.Edits.{sets}
use Rattle.grammar.specs.Text.{in_range}
use Rattle.desk_render.specs.Shown.{shown_of}

-- the controls U+0080 to U+009F: C2 80 to C2 9F
abbrev pub is_control : ℕ → ℕ → Bool
is_control a b = cond (eqb a 0xC2) (in_range (0x80, 0x9F) b) false

-- the separators of lines and paragraphs, and what turns the direction of a text: U+2028 to U+202E, U+2066 to U+2069
abbrev pub is_turning : ℕ → ℕ → ℕ → Bool
is_turning a b c = cond (eqb a 0xE2) (cond (eqb b 0x80) (in_range (0xA8, 0xAE) c) (cond (eqb b 0x81) (in_range (0xA6, 0xA9) c) false)) false

-- such a character begins at index i of s
unfoldable pub control_at : List ℕ → ℕ → Bool
control_at s i = is_control (get_or s (i + 0) 0) (get_or s (i + 1) 0)

unfoldable pub turning_at : List ℕ → ℕ → Bool
turning_at s i = is_turning (get_or s (i + 0) 0) (get_or s (i + 1) 0) (get_or s (i + 2) 0)

-- the byte at index i is one of its two or three
unfoldable pub hidden : List ℕ → ℕ → Bool
hidden s i = control_at s i || (control_at s (i - 1) || (turning_at s i || (turning_at s (i - 1) || turning_at s (i - 2))))

-- the byte at index i of a text stands as it is: it is not ASCII, and not hidden
unfoldable pub seen : List ℕ → ℕ → Bool
seen s i = cond (leb 0x80 (get_or s i 0)) (cond (hidden s i) false true) false

abbrev pub stands : Bool → List ℕ → ℕ → Bool
stands text s i = cond text (seen s i) false

-- what is shown of it
unfoldable pub piece_of : Bool → List ℕ → ℕ → List ℕ
piece_of text s i = cond (stands text s i) (get_or s i 0 ∷ []) (shown_of (get_or s i 0))

-- what is shown of each of n bytes from index i on
unfoldable pub pieces : Bool → List ℕ → ℕ → ℕ → List (List ℕ)
pieces text s i zero = []
pieces text s i (suc n) = piece_of text s i ∷ pieces text s (suc i) n

-- as many as are shown whole in so much room
unfoldable pub fitting : ℕ → List (List ℕ) → List (List ℕ)
fitting room [] = []
fitting room (p ∷ ps) = cond (leb (length p) room) (p ∷ fitting (room - length p) ps) []

unfoldable pub joined : List (List ℕ) → List ℕ
joined [] = []
joined (p ∷ ps) = p ++ joined ps

-- of the bytes of s from an index on, those that fit
abbrev pub fitted : Bool → List ℕ → ℕ → ℕ → List (List ℕ)
fitted text s from room = fitting room (pieces text s from (length s - from))

-- they are shown from index `at` of the output on: so many of s, in so many bytes
pub record ShowsText (before : List ℕ) (at : ℕ) (text : Bool) (s : List ℕ) (from : ℕ) (after : List ℕ) (taken put : ℕ) : Type 0 where
  pub most : taken ≡ length (fitted text s from (length before - at))
  pub stores : after ≡ sets before at (joined (fitted text s from (length before - at)))
  pub size : put ≡ length (joined (fitted text s from (length before - at)))
