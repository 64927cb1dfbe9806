-- Lists of which something holds of every element; streams of bytes. Assumes nothing.
use Rattle.std.specs.Prelude.{List, [], ◌∷◌, ℕ, ◌<◌}

infixr 5 ◌&◌
-- P holds of every element
pub data Each {A : Type 0} (P : A → Type 0) : List A → Type 0 where
  nil : Each P []
  ◌&◌ : {a : A} {l : List A} → P a → Each P l → Each P (a ∷ l)

-- 01, grammar: a byte of a stream, as every u8 of the code is
abbrev pub Octet : ℕ → Type 0
Octet x = x < 256

-- a stream of bytes
abbrev pub Octets : List ℕ → Type 0
Octets = Each Octet
