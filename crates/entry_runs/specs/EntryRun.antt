-- What the answers on an entry of a run tell, in 01's numbers and values. Assumes nothing.
use Rattle.std.specs.Prelude.{◌≡◌, cond, List, ℕ, eqb, Option, Some}
use Rattle.grammar.specs.Tables.{reasons_of}
use Rattle.reading.specs.Place.{as_places, reason_at, topic_at}
use Rattle.records.specs.AsNumbers.{told_span, told_reply_kind}
use Rattle.records.specs.Answered.{told_reason_item, told_topic_item}
use Rattle.records.specs.declared.reply_record.ReplyKind.{ReplyKind}
use Rattle.records.specs.declared.span.Span.{Span}

-- the entry at its turn, else what was there
abbrev pub kept_of : {T : Type 0} → Option T → T → ℕ → ℕ → Option T
kept_of item entry turn n = cond (eqb turn n) (Some entry) item

-- the contract of `reason`: r is the n-th reason of the run at p in s, of a frame of the kind, or 21
abbrev pub NthReason : List ℕ → Span → ReplyKind → ℕ → Option ℕ → Type 0
NthReason s p kind n r = told_reason_item r ≡ reason_at s (told_span p) (reasons_of (told_reply_kind kind)) n

-- the contract of `topic`: r is the n-th topic of the run at p in s, or 21
abbrev pub NthTopic : List ℕ → Span → ℕ → Option Span → Type 0
NthTopic s p n r = told_topic_item r ≡ topic_at as_places s (told_span p) n
