-- Bytes that are ASCII, and none of them 0. Assumes nothing.
use Rattle.std.specs.Prelude.{Bool, List, ℕ}
use Rattle.text_chars.specs.Text.{all_ascii as everyPlain}

-- whether every byte is ASCII and not 0 (02, P9)
abbrev pub all_ascii : List ℕ → Bool
all_ascii = everyPlain
