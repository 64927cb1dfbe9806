-- What the answers on a publish acknowledgement tell, and what its part is. Assumes nothing.
use Rattle.std.specs.Prelude as std
use Rattle.std.proofs.Math.Option.{Option}
use Rattle.std.specs.Prelude.{List, ℕ, Result}
use Rattle.grammar.specs.Tables.{ack_row}
use Rattle.grammar.specs.Record.{Val, Props}
use Rattle.grammar.specs.Record as record_of
use Rattle.reading.specs.Reader.{Fit, got, ◌>>=◌}
use Rattle.reading.specs.Read.{ack_block_fit, ack_rest_fit}
use Rattle.reading.specs.Place.{as_places, held_of}
use Rattle.reading.specs.Place as place
use Rattle.records.specs.AsNumbers.{told_by}
use Rattle.records.specs.Said.{told_ack, told_block}
use Rattle.wire.specs.StringRead.{string_if, in_block}
use Rattle.records.specs.declared.ack_record.Ack.{Ack}
use Rattle.records.specs.declared.error.Error.{Error}
use Rattle.records.specs.declared.properties_record.Properties.{Properties}

-- the fields of an acknowledgement, or the refusal
abbrev pub told_got_ack : Result Ack Error → Fit (record_of.Ack place.Span (λ A. place.Span))
told_got_ack = told_by (λ m. told_ack m)

-- 01, grammar, PubAck: "no block", or "a block that ends the frame"
abbrev pub told_last_block : Result (std.Option Properties) Error → Fit (Option (Props place.Span (λ A. place.Span)))
told_last_block = told_by (λ p. told_block p)

-- 01, grammar, PubAck: the identifier, then a reason and a block
abbrev pub acked : ℕ → ℕ × Option (Props place.Span (λ A. place.Span)) → Fit (record_of.Ack place.Span (λ A. place.Span))
acked i v = got (record { ident = i; reason = v.0; props = v.1 })

-- 01, grammar, PubAck: what follows the reason c, in bytes that end at index `end`
abbrev pub behind_reason : ℕ → ℕ → ℕ → List ℕ → Fit (record_of.Ack place.Span (λ A. place.Span))
behind_reason i c end b = ack_block_fit as_places ack_row end b >>= λ ps. acked i (c, ps)

-- 01, grammar, PubAck: what follows the identifier, where the reasons are rs
abbrev pub after_ident : List ℕ → ℕ → ℕ → List ℕ → Fit (record_of.Ack place.Span (λ A. place.Span))
after_ident rs i end b = ack_rest_fit as_places ack_row rs end b >>= acked i

-- ---- the reason string

-- 01, table of properties, 31: the reason string of an acknowledgement or reply; absent where there is no block
abbrev pub reason : std.Option Properties → Option (Val place.Span)
reason properties = in_block (λ ps. ps.reason) (told_block properties)

-- the bytes of it in the stream s; demand 1: any record with any stream, so what lies outside is empty, and what is absent
abbrev pub reason_in : List ℕ → std.Option Properties → List ℕ
reason_in s properties = string_if (held_of s) (reason properties)
