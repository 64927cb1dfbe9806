-- The fields of an Unsubscribe are those of a kind with entries. Assumes nothing.
use mathlib.Core.Path.{◌≡◌, refl}
use mathlib.Core.List.{List}
use Prim.Native.Nat.{ℕ}
use lib.ListN.{length, drop}
use Rattle.grammar.specs.Tables.{unsubscribe_row, an_unsubscribe}
use Rattle.grammar.specs.Record.{mk_unsubscribe}
use Rattle.reading.specs.Reader.{hand_fit}
use Rattle.reading.specs.Read.{text_of, topics_fit, fields_fit}
use Rattle.reading.specs.Place.{as_places}
use Rattle.positions.specs.Position.{placed_run}
use Rattle.positions.proofs.Listed.{listed_fields}

pub as_listed : (s : List ℕ) (at x : ℕ) → listed_fields unsubscribe_row (placed_run (text_of as_places (length s)) (length s)) mk_unsubscribe s at ≡ fields_fit as_places an_unsubscribe x (length s) (drop at s)
unfolding fields_fit hand_fit topics_fit
as_listed s at x = refl
