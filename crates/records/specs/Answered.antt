-- What each answer tells: of a read, a size, a write, an item and a forward rule. Assumes nothing.
use Rattle.std.specs.Prelude.{◌≡◌, [], ◌∷◌, ℕ, ltb, Option, Some, None, Result, Ok, Err}
use Rattle.grammar.specs.Record.{Val, num, duo}
use Rattle.grammar.specs.Record as record_of
use Rattle.reading.specs.Refusal.{nr, Answer, accepted, refused_as}
use Rattle.reading.specs.Reader.{Fit, got, bad, ◌>>◌, guard}
use Rattle.reading.specs.Place.{Placed, no_item}
use Rattle.reading.specs.Place as place
use Rattle.reading.specs.Bounds.{bounds_by}
use Rattle.records.specs.AsNumbers.{told_error, told_rule, told_span, told_by}
use Rattle.records.specs.Said.{told_filter, told_packet}
use Rattle.records.specs.declared.span.Bounds.{Bounds}
use Rattle.records.specs.declared.span.Span.{Span}
use Rattle.records.specs.declared.subscribe_record.Filter.{Filter}
use Rattle.records.specs.declared.error.Error.{Error}
use Rattle.records.specs.declared.packet_record.Packet.{Packet}
use Rattle.records.specs.declared.subscribe_record.RetainForwardRule.{RetainForwardRule}

-- 01, "When the desk says no", and 02, P7: the record, the two numbers and what is taken; or the refusal and what is taken
abbrev pub ReadResult : Type 0
ReadResult = Result (Packet × Bounds × ℕ) (Error × ℕ)

-- 01, "When the desk says no": "Taken is the count of stream bytes used up"; all but the two numbers of 02's P7
abbrev pub told : ReadResult → Answer Placed
told (Ok (p, b, n)) = accepted (told_packet p) n
told (Err (e, n)) = refused_as (told_error e) n

-- 02, P7: "where its properties start .. and end"
abbrev pub told_bounds : Bounds → ℕ × ℕ
told_bounds b = (b.start, b.end)

-- 02, P7: "Every record read shall also carry" the two numbers; a refusal has none
abbrev pub carried : ReadResult → Fit (ℕ × ℕ)
carried (Ok (p, b, n)) = got (told_bounds b)
carried (Err (e, n)) = bad (told_error e)

-- the two numbers are those that the record itself says
abbrev pub Bounded : ReadResult → Type 0
Bounded r = carried r ≡ bounds_by (told r)

-- 01: "Asked alone, size refuses only with 20, then 17 for R"; of a write: "An accepted one sets the first size bytes, gives that size"
abbrev pub told_size : Result ℕ Error → Fit ℕ
told_size = told_by (λ n. n)

-- 01, "What must change shape": "a way to get the n-th pair", or row 21
abbrev pub told_user : Option (Span × Span) → Fit (Val place.Span)
told_user (Some (k, v)) = got (duo (told_span k) (told_span v))
told_user None = bad no_item

-- 01, "What must change shape": the n-th identifier, or row 21
abbrev pub told_identifier : Option ℕ → Fit (Val place.Span)
told_identifier (Some n) = got (num n)
told_identifier None = bad no_item

-- 01, "What must change shape": the n-th filter, or row 21
abbrev pub told_filter_item : Option Filter → Fit (record_of.Filter place.Span)
told_filter_item (Some f) = got (told_filter f)
told_filter_item None = bad no_item

-- 02, P1: the n-th reason, or 01's row 21
abbrev pub told_reason_item : Option ℕ → Fit ℕ
told_reason_item (Some c) = got c
told_reason_item None = bad no_item

-- 02, P1: the n-th topic, or 01's row 21
abbrev pub told_topic_item : Option Span → Fit place.Span
told_topic_item (Some p) = got (told_span p)
told_topic_item None = bad no_item

-- 01, row 14: "both rule bits set"
abbrev pub told_got_rule : Result RetainForwardRule Error → Fit ℕ
told_got_rule = told_by (λ r. told_rule r)

-- the crate: 0, 1 and 2 are forward rules; 01, row 14, for any other number
abbrev pub rule_of : ℕ → Fit ℕ
rule_of n = do
  guard (ltb n 3) (nr 14 (n ∷ []))
  got n
