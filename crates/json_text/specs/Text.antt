-- A text between the double quotes of JSON, RFC 8259, section 7, by the bytes of its UTF-8. Assumes nothing.
use Rattle.std.specs.Prelude.{Bool, cond, ◌||◌, List, [], ◌∷◌, ◌++◌, ℕ, eqb, ltb}
use Rattle.desk_render.specs.Shown.{hex_of}

-- RFC 8259, 7: "quotation mark, reverse solidus", which have a reverse solidus before them
abbrev pub is_marked : ℕ → Bool
is_marked b = eqb b 34 || eqb b 92

-- RFC 8259, 7: "and the control characters (U+0000 through U+001F)"; U+007F, which a terminal may obey, is put as they are
abbrev pub is_control : ℕ → Bool
is_control b = ltb b 32 || eqb b 127

-- RFC 8259, 7: "a reverse solidus, followed by the lowercase letter u, followed by four hexadecimal digits that encode the character's code point";
-- every other byte stands as it is
unfoldable pub escaped_of : ℕ → List ℕ
escaped_of b = cond (is_marked b) (92 ∷ b ∷ []) (cond (is_control b) (92 ∷ 117 ∷ 48 ∷ 48 ∷ hex_of b) (b ∷ []))

-- each byte in its form, one behind the other
unfoldable pub each : (ℕ → List ℕ) → List ℕ → List ℕ
each f [] = []
each f (b ∷ s) = f b ++ each f s
