-- How a text of JSON is read, RFC 8259, section 7, up to the quote that ends it; no word here is of how one is put. Assumes nothing.
use Rattle.std.specs.Prelude.{cond, List, [], ◌∷◌, ℕ, zero, suc, ◌+◌, ◌-◌, ◌*◌, eqb, ltb}
use Rattle.std.proofs.Math.Option.{Option, none, some}

-- what is awaited: a character, what is behind a reverse solidus, or so many digits behind the next one, with the value of those before
pub data Awaits : Type 0 where
  character : Awaits
  escape : Awaits
  digit : ℕ → ℕ → Awaits

-- RFC 8259, 7: "b", "f", "n", "r" and "t" stand for control characters; the quotation mark, the reverse solidus and the solidus for themselves
abbrev pub meant : ℕ → ℕ
meant x = cond (eqb x 98) 8 (cond (eqb x 102) 12 (cond (eqb x 110) 10 (cond (eqb x 114) 13 (cond (eqb x 116) 9 x))))

-- RFC 8259, 7: "The hexadecimal letters A through F can be uppercase or lowercase"
abbrev pub digit_of : ℕ → ℕ
digit_of x = cond (ltb x 65) (x - 48) (cond (ltb x 97) (x - 55) (x - 87))

-- a character before what is read behind it
abbrev pub before : ℕ → Option (List ℕ × List ℕ) → Option (List ℕ × List ℕ)
before x none = none
before x (some p) = some (x ∷ p.0, p.1)

-- the text, and what stands behind the quote that ends it; none, if no quote ends it or a control character stands in it. A code below 80 in
-- hexadecimal is one byte of UTF-8: no other is put.
unfoldable pub text_in : Awaits → List ℕ → Option (List ℕ × List ℕ)
text_in w [] = none
text_in character (x ∷ s) = cond (eqb x 34) (some ([], s)) (cond (eqb x 92) (text_in escape s) (cond (ltb x 32) none (before x (text_in character s))))
text_in escape (x ∷ s) = cond (eqb x 117) (text_in (digit 3 0) s) (before (meant x) (text_in character s))
text_in (digit zero v) (x ∷ s) = before (v * 16 + digit_of x) (text_in character s)
text_in (digit (suc n) v) (x ∷ s) = text_in (digit n (v * 16 + digit_of x)) s
