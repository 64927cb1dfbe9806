-- What the answers on an Unsubscribe tell, in 01's numbers and values. Assumes nothing.
use Rattle.std.specs.Prelude.{Result}
use Rattle.grammar.specs.Record.{unsubscribe}
use Rattle.reading.specs.Reader.{Fit}
use Rattle.reading.specs.Place.{Placed}
use Rattle.reading.specs.Place as place
use Rattle.records.specs.AsNumbers.{told_span, told_by}
use Rattle.records.specs.Said.{told_unsubscribe}
use Rattle.records.specs.declared.unsubscribe_record.Unsubscribe.{Unsubscribe}
use Rattle.records.specs.declared.error.Error.{Error}
use Rattle.records.specs.declared.span.Span.{Span}

-- where the topics stand
abbrev pub told_got_topics : Result Span Error → Fit place.Span
told_got_topics = told_by (λ p. told_span p)

-- 02, P1: Unsubscribe
abbrev pub told_got_unsubscribe : Result Unsubscribe Error → Fit Placed
told_got_unsubscribe = told_by (λ m. unsubscribe (told_unsubscribe m))
