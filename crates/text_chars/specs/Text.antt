-- What the steps of the validator tell of the text that is left. Assumes nothing.
use Rattle.std.specs.Prelude.{◌≡◌, ℕ, zero, suc, ◌+◌, ◌<◌, ◌≤◌, Bool, true, false, cond, ◌&&◌, List, [], ◌∷◌, length, drop, replicate, ◌==◌, nat_lt}
use Rattle.grammar.specs.Choice.{all}
use Rattle.grammar.specs.Text.{Range, in_range}
use Rattle.reading.specs.Reader.{then_fit, many_fit, is_got}
use Rattle.reading.specs.Read.{follow_of, char_of, is_text}

-- Unicode, table 3-7: a byte that continues a character
abbrev pub continues : ℕ → Bool
continues = in_range (0x80, 0xBF)

-- Unicode, table 3-7: the cell behind a first byte
abbrev pub low_of : ℕ → ℕ
low_of p = cond (p == 0xE0) 0xA0 (cond (p == 0xF0) 0x90 0x80)

abbrev pub high_of : ℕ → ℕ
high_of p = cond (p == 0xED) 0x9F (cond (p == 0xF4) 0x8F 0xBF)

-- n bytes, the first of them from low to high, and the others any that continue a character
abbrev pub due_of : ℕ → ℕ → ℕ → List Range
due_of zero low high = []
due_of (suc n) low high = (low, high) ∷ replicate n (0x80, 0xBF)

-- the bytes that are due, and then characters to the end
unfoldable pub text_after : List Range → List ℕ → Bool
text_after rs s = is_got (then_fit (follow_of rs) (λ _. many_fit char_of) s)

-- whether the n bytes due from index `at` of s are there: the text goes on after them, or it is none
pub record Followed (s : List ℕ) (at n low high : ℕ) (r : Bool) : Type 0 where
  pub within : r ≡ true → at + n ≤ length s
  pub yes : r ≡ true → text_after (due_of n low high) (drop at s) ≡ is_text (drop (at + n) s)
  pub no : r ≡ false → text_after (due_of n low high) (drop at s) ≡ false

-- the text from index `at` of s goes on at r; it is none if r is `at`
pub record Passed (s : List ℕ) (at r : ℕ) : Type 0 where
  pub ahead : at ≤ r
  pub within : r ≤ length s
  pub yes : at < r → is_text (drop at s) ≡ is_text (drop r s)
  pub no : r ≡ at → is_text (drop at s) ≡ false

-- an ASCII byte that is not 0 (02, P9)
abbrev pub plain : ℕ → Bool
plain b = nat_lt 0 b && nat_lt b 128

-- a mark, the top bit, where it is not
abbrev pub flaw_of : ℕ → ℕ
flaw_of b = cond (plain b) 0 128

-- whether every byte is so
abbrev pub all_ascii : List ℕ → Bool
all_ascii = all plain
