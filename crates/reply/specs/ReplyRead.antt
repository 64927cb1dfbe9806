-- What the answers on a SubAck or UnsubAck tell, in 01's numbers and values. Assumes nothing.
use Rattle.std.specs.Prelude.{Result}
use Rattle.grammar.specs.Record as record_of
use Rattle.reading.specs.Reader.{Fit}
use Rattle.reading.specs.Place as place
use Rattle.records.specs.AsNumbers.{told_span, told_by}
use Rattle.records.specs.Said.{told_reply}
use Rattle.records.specs.declared.span.Span.{Span}
use Rattle.records.specs.declared.error.Error.{Error}
use Rattle.records.specs.declared.reply_record.Reply.{Reply}

-- where the reasons stand
abbrev pub told_got_reasons : Result Span Error → Fit place.Span
told_got_reasons = told_by (λ p. told_span p)

-- 02, P1: SubAck and UnsubAck
abbrev pub told_got_reply : Result Reply Error → Fit (record_of.Reply place.Span (λ A. place.Span))
told_got_reply = told_by (λ m. told_reply m)
