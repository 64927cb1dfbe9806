-- What the answer on a string tells: its place and the index after it, or 01's number and values of the refusal; and the bytes of a string
-- that may be absent. Assumes nothing.
use Rattle.std.proofs.Math.Option.{Option, none, some}
use Rattle.std.specs.Prelude.{List, [], ℕ, Result}
use Rattle.grammar.specs.Record.{Val, num, str, duo}
use Rattle.reading.specs.Reader.{Fit}
use Rattle.reading.specs.Place as place
use Rattle.records.specs.AsNumbers.{told_span, told_by}
use Rattle.records.specs.declared.span.Span.{Span}
use Rattle.records.specs.declared.error.Error.{Error}

-- 01, grammar: the place of a string, and the index after it; or the refusal
abbrev pub told_part : Result (Span × ℕ) Error → Fit (place.Span × ℕ)
told_part = told_by (λ (p, next). (told_span p, next))

-- ---- strings that may be absent

-- the bytes of a value that is a string, where f says what bytes a string is; none if it is absent
unfoldable pub string_if : {S : Type 0} → (S → List ℕ) → Option (Val S) → List ℕ
string_if f none = []
string_if f (some (num n)) = []
string_if f (some (str b)) = f b
string_if f (some (duo b c)) = []

-- the value v of a block; none if the block is absent
abbrev pub in_block : {S P : Type 0} → (P → Option (Val S)) → Option P → Option (Val S)
in_block v none = none
in_block v (some ps) = v ps
