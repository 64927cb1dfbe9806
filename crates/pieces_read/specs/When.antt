-- 02, P10: when FrameTooLong is given, said by the grammar of a header and without its reader. Assumes nothing.
use Rattle.std.specs.Prelude.{◌≡◌, ◌⊎◌, List, ◌++◌, ℕ, ◌+◌, ◌<◌, length}
use Rattle.std.proofs.Math.Option.{Option}
use Rattle.grammar.specs.Gram.{Then, OnlyBy}
use Rattle.grammar.specs.Number.{Byte, Spells}
use Rattle.reading.specs.Refusal.{Refusal, passes}
use Rattle.records.specs.AsNumbers.{row_of}
use Rattle.pieces_rules.specs.Whole.{frame_too_long}

-- "A frame longer than the buffer", of cap bytes, "as soon as its header is complete, after the limit test": s begins with a first byte and an R that
-- passes the limit, spelt by c, and c and R together are more than the buffer has
abbrev pub Longer : Option ℕ → ℕ → List ℕ → Type 0
Longer limit cap s = (z : ℕ × ℕ) × (c : List ℕ) × (r : List ℕ) × (s ≡ c ++ r) × Then Byte (λ _. OnlyBy (passes limit) Spells) z c × (cap < length c + z.1)

-- "Refusals 2 and 3 of the header, and FrameTooLong, end the stream"
abbrev pub Ending : Option ℕ → ℕ → List ℕ → Refusal → Type 0
Ending limit cap s k = (row_of k ≡ 2) ⊎ ((row_of k ≡ 3) ⊎ ((k ≡ frame_too_long) × Longer limit cap s))
