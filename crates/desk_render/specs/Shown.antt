-- How bytes are written for people: the line format of docs/DESK.md. Assumes nothing.
use Rattle.std.specs.Prelude.{◌≡◌, Bool, cond, ◌||◌, ◌&&◌, List, [], ◌∷◌, ◌++◌, ℕ, zero, suc, ◌+◌, ◌-◌, ◌/◌, ◌%◌, eqb, leb, ltb, length, take}
use Rattle.std.proofs.lemmas.List.Edits.{sets}

-- the ASCII code of a digit below 16, upper case: `0` to `9`, then `A` to `F`
abbrev pub hex_digit : ℕ → ℕ
hex_digit d = cond (ltb d 10) (48 + d) (55 + d)

-- two hexadecimal digits, upper case
abbrev pub hex_of : ℕ → List ℕ
hex_of b = hex_digit (b / 16 % 16) ∷ hex_digit (b % 16) ∷ []

-- a number in decimal, the highest digit first, no zero in front; the bound, no less than the number, is more than its divisions by ten
unfoldable pub decimal_in : ℕ → ℕ → List ℕ
decimal_in zero n = (48 + n) ∷ []
decimal_in (suc bound) n = cond (ltb n 10) ((48 + n) ∷ []) (decimal_in bound (n / 10) ++ ((48 + n % 10) ∷ []))

-- a number in decimal
abbrev pub decimal_of : ℕ → List ℕ
decimal_of n = decimal_in n n

-- `"` and `\` have a `\` before them
abbrev pub is_marked : ℕ → Bool
is_marked b = eqb b 34 || eqb b 92

-- 0x20 to 0x7E stand as they are
abbrev pub is_printable : ℕ → Bool
is_printable b = leb 32 b && leb b 126

-- a byte between the quotes; every other byte is `\xHH`
unfoldable pub shown_of : ℕ → List ℕ
shown_of b = cond (is_marked b) (92 ∷ b ∷ []) (cond (is_printable b) (b ∷ []) (92 ∷ 120 ∷ hex_of b))

-- how many bytes a byte is shown in
unfoldable pub shown_size : ℕ → ℕ
unfolding shown_of
shown_size b = length (shown_of b)

-- bytes between the quotes
unfoldable pub shown : List ℕ → List ℕ
shown [] = []
shown (b ∷ s) = shown_of b ++ shown s

-- how many bytes of a list, from the first on, are shown whole in so much room
unfoldable pub fitting : ℕ → List ℕ → ℕ
fitting room [] = 0
fitting room (b ∷ s) = cond (leb (shown_size b) room) (suc (fitting (room - shown_size b) s)) 0

-- as many bytes of s as fit are shown from index `at` on: so many of s, in so many bytes
pub record Shows (before : List ℕ) (at : ℕ) (s after : List ℕ) (taken put : ℕ) : Type 0 where
  pub most : taken ≡ fitting (length before - at) s
  pub stores : after ≡ sets before at (shown (take taken s))
  pub size : put ≡ length (shown (take taken s))
