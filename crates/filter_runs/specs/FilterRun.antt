-- What the answers on a run of filters tell, in 01's numbers and values. Assumes nothing.
use Rattle.std.specs.Prelude.{◌≡◌, List, ℕ, length, Option, Result}
use Rattle.reading.specs.Refusal.{Refusal}
use Rattle.reading.specs.Reader.{Fit, bad, Filler}
use Rattle.reading.specs.Read.{filter_of}
use Rattle.reading.specs.Place.{as_places, filter_at}
use Rattle.reading.specs.Place as place
use Rattle.positions.specs.Position.{from_at, placed_run}
use Rattle.records.specs.AsNumbers.{told_span, told_by}
use Rattle.records.specs.Answered.{told_filter_item}
use Rattle.records.specs.declared.span.Span.{Span}
use Rattle.records.specs.declared.subscribe_record.Filter.{Filter}
use Rattle.records.specs.declared.error.Error.{Error}

-- where a run of filters stands
abbrev pub told_got_filters : Result Span Error → Fit place.Span
told_got_filters = told_by (λ p. told_span p)

-- 01, grammar, Subscribe: "one or more filters to the end", handed back as their place: the last part of `fields_fit` at a Subscribe
abbrev pub place_fit : ℕ → Filler place.Span
place_fit end = placed_run (filter_of as_places end) end

-- the contract of `broken`: where no filter stands whole, r is its refusal
pub record Broken (s : List ℕ) (at : ℕ) (r : Result Span Error) : Type 0 where
  pub says : {k : Refusal} → bad k ≡ from_at (filter_of as_places (length s)) s at → bad k ≡ told_got_filters r

-- the contract of `filter`: r is the n-th filter of the run at p in s, or 21
abbrev pub NthFilter : List ℕ → Span → ℕ → Option Filter → Type 0
NthFilter s p n r = told_filter_item r ≡ filter_at as_places s (told_span p) n
