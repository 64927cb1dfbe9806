-- The fields of a Subscribe are those of a kind with entries. Assumes nothing.
use mathlib.Core.Path.{◌≡◌, refl}
use mathlib.Core.List.{List}
use Prim.Native.Nat.{ℕ}
use lib.ListN.{length, drop}
use Rattle.grammar.specs.Tables.{subscribe_row, a_subscribe}
use Rattle.grammar.specs.Record.{mk_subscribe}
use Rattle.reading.specs.Reader.{hand_fit}
use Rattle.reading.specs.Read.{filters_fit, fields_fit}
use Rattle.reading.specs.Place.{as_places}
use Rattle.positions.proofs.Listed.{listed_fields}
use Rattle.filter_runs.specs.FilterRun.{place_fit}

pub as_listed : (s : List ℕ) (at x : ℕ) → listed_fields subscribe_row (place_fit (length s)) mk_subscribe s at ≡ fields_fit as_places a_subscribe x (length s) (drop at s)
unfolding fields_fit hand_fit filters_fit
as_listed s at x = refl
