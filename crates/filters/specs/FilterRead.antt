-- What the answer on a filter tells, in 01's numbers and values. Assumes nothing.
use Rattle.std.specs.Prelude.{◌≡◌, List, [], ◌∷◌, ℕ, length, Result}
use Rattle.grammar.specs.Record.{mk_filter}
use Rattle.grammar.specs.Record as record_of
use Rattle.grammar.specs.Sentence.{qos_fine, rule_fine}
use Rattle.reading.specs.Refusal.{nr}
use Rattle.reading.specs.Reader.{Fit, got, ◌>>◌, guard}
use Rattle.reading.specs.Read.{filter_of}
use Rattle.reading.specs.Place as place
use Rattle.positions.specs.Position.{from_at, next_or}
use Rattle.records.specs.AsNumbers.{told_by}
use Rattle.records.specs.Said.{told_filter}
use Rattle.records.specs.declared.subscribe_record.Filter.{Filter}
use Rattle.records.specs.declared.error.Error.{Error}

-- a filter, and the index after it
abbrev pub told_got_filter : Result (Filter × ℕ) Error → Fit (record_of.Filter place.Span × ℕ)
told_got_filter = told_by (λ (f, next). (told_filter f, next))

-- 01, reading order: "within a filter the forward rule before QoS"; the options byte o ends at `next`
abbrev pub options_of : place.Span → ℕ → ℕ → Fit (record_of.Filter place.Span × ℕ)
options_of path o next = do
  guard (rule_fine o) (nr 14 (3 ∷ []))
  guard (qos_fine o) (nr 11 (3 ∷ []))
  got (mk_filter (path, o), next)

-- the index after the filter at index `at` of s; `at` if none stands there
pub record FilterPassed (s : List ℕ) (at r : ℕ) : Type 0 where
  pub says : r ≡ next_or at (from_at (filter_of place.as_places (length s)) s at)
