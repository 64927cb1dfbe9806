-- Text by windows: a byte and the three before it, with no state. That it is the text of the grammar is **text-windows** and **windows-text**
-- (proofs/Windows). Assumes nothing.
use Rattle.std.specs.Prelude.{◌≡◌, ℕ, suc, ◌<◌, ◌≤◌, Bool, true, false, cond, not, ◌&&◌, ◌||◌, List, ◌∷◌, length, take, ◌==◌, nat_le, slice_index}
use Rattle.grammar.specs.Text.{in_range}
use Rattle.reading.specs.Read.{is_text}
use Rattle.text_chars.specs.Text.{continues, all_ascii}

-- a byte that continues a character is due after r, q and p: p begins one of two bytes or more, q one of three or more, or r one of four
unfoldable pub due : ℕ → ℕ → ℕ → Bool
due r q p = nat_le 0xC0 p || (nat_le 0xE0 q || nat_le 0xF0 r)

-- Unicode, table 3-7: the first bytes of all rows; 02, P9: not 0
unfoldable pub begins : ℕ → Bool
begins b = in_range (0x01, 0x7F) b || in_range (0xC2, 0xF4) b

-- x, where t holds
abbrev pub only_if : Bool → Bool → Bool
only_if t x = cond t x true

-- Unicode, table 3-7: the second cells that are narrower than 80..BF
unfoldable pub second : ℕ → ℕ → Bool
second p b =
    only_if (p == 0xE0) (nat_le 0xA0 b) && (only_if (p == 0xED) (nat_le b 0x9F) && (only_if (p == 0xF0) (nat_le 0x90 b) && only_if (p == 0xF4) (nat_le b 0x8F)))

-- b fits behind r, q and p
unfoldable pub fits : ℕ → ℕ → ℕ → ℕ → Bool
fits r q p b = cond (due r q p) (continues b && second p b) (begins b)

-- the bytes that stand in any text: those that continue a character or begin one
abbrev pub used : ℕ → Bool
used b = in_range (0x01, 0xF4) b && (not (b == 0xC0) && not (b == 0xC1))

-- ---- of a text by its indices; three zeros stand before it

abbrev pub padded : List ℕ → ℕ → ℕ
padded s i = slice_index (0 ∷ 0 ∷ 0 ∷ s) i

-- a byte is due at index i
abbrev pub due_at : List ℕ → ℕ → Bool
due_at s i = due (padded s i) (padded s (suc i)) (padded s (suc (suc i)))

-- the byte at index i fits behind the up to three before it
abbrev pub fits_at : List ℕ → ℕ → Bool
fits_at s i = fits (padded s i) (padded s (suc i)) (padded s (suc (suc i))) (padded s (suc (suc (suc i))))

-- so do those from index a to e
abbrev pub Fit : List ℕ → ℕ → ℕ → Type 0
Fit s a e = (k : ℕ) → a ≤ k → k < e → fits_at s k ≡ true

-- r says whether they do; if not, s is no text
pub record Fitted (s : List ℕ) (a e : ℕ) (r : Bool) : Type 0 where
  pub yes : r ≡ true → Fit s a e
  pub no : r ≡ false → is_text s ≡ false

-- those before r do, and r is not before `at`; or it is 0, and s is no text
pub record FitTo (s : List ℕ) (at r : ℕ) : Type 0 where
  pub within : r ≤ length s
  pub fit : Fit s 0 r
  pub ahead : 0 < r → at ≤ r
  pub none : r ≡ 0 → is_text s ≡ false

-- the bytes before index i are ASCII, and none of them 0
pub record AsciiTo (s : List ℕ) (i : ℕ) : Type 0 where
  pub within : i ≤ length s
  pub ascii : all_ascii (take i s) ≡ true
