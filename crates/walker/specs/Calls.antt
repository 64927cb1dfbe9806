-- The calls of a walker one after the other, and what they list. Assumes nothing.
use Rattle.std.specs.Prelude as std
use Rattle.std.proofs.Math.Option.{Option, none, some}
use Rattle.std.specs.Prelude.{List, [], ◌∷◌, ℕ, zero, suc}
use Rattle.grammar.specs.Record.{Val}
use Rattle.grammar.specs.Tables.{Row}
use Rattle.reading.specs.Reader.{Fit, got, bad}
use Rattle.reading.specs.Place.{Span, as_places, no_item, values_at}
use Rattle.walker.specs.Walk.{Moves}
use Rattle.walker.specs.declared.Walker.{Walker}
use Rattle.records.specs.declared.span.Span.{Span as CodeSpan}

-- 02, P7: "one after another": what each call of `next` gives, and the walker that is left
pub data Calls : Walker → List (std.Option (CodeSpan × CodeSpan)) → Walker → Type 0 where
  uncalled : {w : Walker} → Calls w [] w
  called : {w v u : Walker} {r : std.Option (CodeSpan × CodeSpan)} {rs : List (std.Option (CodeSpan × CodeSpan))} → Moves w r v → Calls v rs u → Calls w (r ∷ rs) u

-- the answers to k calls where vs are the user properties: vs in order, and then nothing for ever
abbrev pub answers_of : ℕ → List (Val Span) → List (Fit (Val Span))
answers_of zero vs = []
answers_of (suc k) [] = bad no_item ∷ answers_of k []
answers_of (suc k) (v ∷ vs) = got v ∷ answers_of k vs

-- the user properties of a record in the bytes s, whose block stands in a row at a place; none where there is no block
abbrev pub users_in : List ℕ → Option (Row × Span) → Fit (List (Val Span))
users_in s none = got []
users_in s (some (row, p)) = values_at as_places s p row 38
