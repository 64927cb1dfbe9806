-- What is put of a string. Assumes nothing.
use Rattle.std.specs.Prelude.{cond, List, [], ℕ, leb, length}
use Rattle.writing.specs.Spell.{string}

-- 01, row 18: "above 65,535 bytes": nothing, else its length and its bytes
unfoldable pub fit_string : List ℕ → List ℕ
fit_string s = cond (leb (length s) 65535) (string s) []
