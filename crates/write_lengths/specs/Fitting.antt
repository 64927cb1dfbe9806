-- What is put of a variable length number. Assumes nothing.
use Rattle.std.specs.Prelude.{cond, List, [], ℕ, leb}
use Rattle.writing.specs.Size.{most}
use Rattle.writing.specs.Spell.{short}

-- 01, row 17: "above 268,435,455": nothing, else the shortest spelling
unfoldable pub fit_short : ℕ → List ℕ
fit_short n = cond (leb n most) (short n) []
