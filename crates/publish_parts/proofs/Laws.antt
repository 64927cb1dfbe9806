-- A part at the place of a string that may be absent. Assumes nothing.
use mathlib.Core.Path.{◌≡◌, subst}
use mathlib.Core.Option.{Option}
use mathlib.Core.List.{List}
use Prim.Native.Nat.{ℕ}
use denote.Ref.{Bor}
use Rattle.grammar.specs.Record.{Val}
use Rattle.reading.specs.Place.{Span}
use Rattle.wire.specs.Part.{PartAt, place_if}

-- the part at what the record says is the part at what is given
pub part_as : {s r : Bor (List ℕ)} {a b : Option (Val Span)} → a ≡ b → PartAt s (place_if a) r → PartAt s (place_if b) r
part_as {s = s} {r = r} e p = subst (λ (o : Option (Val Span)). PartAt s (place_if o) r) e p
