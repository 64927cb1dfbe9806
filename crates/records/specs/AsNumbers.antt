-- What refusals, numbers and single values tell, in 01's numbers and values. Assumes nothing.
use Rattle.std.specs.Prelude as std
use Rattle.std.specs.Prelude.{Bool, true, false, List, [], ◌∷◌, ℕ, Some, None, Result, Ok, Err}
use Rattle.std.proofs.Math.Option.{Option, none, some}
use Rattle.grammar.specs.Record.{Val, num, str}
use Rattle.reading.specs.Refusal.{Refusal, nr}
use Rattle.reading.specs.Reader.{Fit, got, bad}
use Rattle.reading.specs.Place.{on_some}
use Rattle.reading.specs.Place as place
use Rattle.records.specs.declared.error.Error.{Error}
use Rattle.records.specs.declared.ack_record.AckKind.{AckKind}
use Rattle.records.specs.declared.reply_record.ReplyKind.{ReplyKind}
use Rattle.records.specs.declared.qos.QoS.{QoS}
use Rattle.records.specs.declared.values.Values.{Values}
use Rattle.records.specs.declared.span.Span.{Span}
use Rattle.records.specs.declared.subscribe_record.RetainForwardRule.{RetainForwardRule}

-- ---- refusals

-- 01, "When the desk says no": the number of the row, and its values
abbrev pub told_error : Error → Refusal
told_error (Error.InsufficientBytes n) = nr 1 (n ∷ [])
told_error Error.MalformedRemainingLength = nr 2 []
told_error (Error.PayloadSizeLimitExceeded r m) = nr 3 (r ∷ m ∷ [])
told_error (Error.InvalidPacketType k) = nr 4 (k ∷ [])
told_error Error.PayloadRequired = nr 5 []
told_error (Error.KindNotCarried k) = nr 6 (k ∷ [])
told_error Error.MalformedPacket = nr 7 []
told_error (Error.BoundaryCrossed n) = nr 8 (n ∷ [])
told_error Error.TopicNotUtf8 = nr 9 []
told_error (Error.InvalidPropertyType k) = nr 10 (k ∷ [])
told_error (Error.InvalidQoS q) = nr 11 (q ∷ [])
told_error Error.PacketIdZero = nr 12 []
told_error Error.EmptySubscription = nr 13 []
told_error (Error.InvalidRetainForwardRule r) = nr 14 (r ∷ [])
told_error (Error.InvalidReason k) = nr 15 (k ∷ [])
told_error (Error.OutgoingPacketTooLarge n m) = nr 16 (n ∷ m ∷ [])
told_error Error.PayloadTooLong = nr 17 []
told_error (Error.StringTooLong n) = nr 18 (n ∷ [])
told_error (Error.NoRoom n) = nr 19 (n ∷ [])
told_error Error.ListMismatch = nr 20 []
told_error Error.NoItem = nr 21 []
told_error (Error.DuplicateProperty k) = nr 22 (k ∷ [])
told_error Error.SubscriptionIdZero = nr 23 []

-- 01, "When the desk says no": the column No.
abbrev pub row_of : Refusal → ℕ
row_of (nr k vs) = k

-- 01, "When the desk says no": the values beside the name
abbrev pub values_of : Refusal → List ℕ
values_of (nr k vs) = vs

-- 01, "When the desk says no": none, one or two values
abbrev pub told_values : Values → List ℕ
told_values Values.None = []
told_values (Values.One n) = n ∷ []
told_values (Values.Two m n) = m ∷ n ∷ []

-- what an answer tells: what f tells of its value, or 01's number and values of the refusal
abbrev pub told_by : {T B : Type 0} → (T → B) → Result T Error → Fit B
told_by f (Ok x) = got (f x)
told_by f (Err e) = bad (told_error e)

-- 01, rows 3 and 16: the limit, if there is one; 0 is a limit
abbrev pub limit_of : std.Option ℕ → Option ℕ
limit_of None = none
limit_of (Some n) = some n

-- ---- numbers

-- 01, grammar, Publish: a flag is a bit
abbrev pub told_bool : Bool → ℕ
told_bool false = 0
told_bool true = 1

-- 01, grammar, Publish: "QoS (6)", the number in the two bits
abbrev pub told_qos : QoS → ℕ
told_qos QoS.AtMostOnce = 0
told_qos QoS.AtLeastOnce = 1
told_qos QoS.ExactlyOnce = 2

-- 01, grammar: "PubAck (4)"; 02, P1: PubRec, PubRel and PubComp: the number of the kind
abbrev pub told_ack_kind : AckKind → ℕ
told_ack_kind AckKind.PubAck = 4
told_ack_kind AckKind.PubRec = 5
told_ack_kind AckKind.PubRel = 6
told_ack_kind AckKind.PubComp = 7

-- 02, P1: SubAck and UnsubAck: the number of the kind
abbrev pub told_reply_kind : ReplyKind → ℕ
told_reply_kind ReplyKind.SubAck = 9
told_reply_kind ReplyKind.UnsubAck = 11

-- 01, grammar, Subscribe: "forward rule 4-5", the number in the two bits
abbrev pub told_rule : RetainForwardRule → ℕ
told_rule RetainForwardRule.OnEverySubscribe = 0
told_rule RetainForwardRule.OnNewSubscribe = 1
told_rule RetainForwardRule.Never = 2

-- ---- places, and values of properties

-- 01, "What must change shape": a place in the stream
abbrev pub told_span : Span → place.Span
told_span p = record { start = p.start; len = p.len }

-- and back: the place that is told so
abbrev pub back_span : place.Span → Span
back_span p = record { start = p.start; len = p.len }

-- 01, table of properties: a number of any width, if it is given
abbrev pub number_if : std.Option ℕ → Option ℕ
number_if None = none
number_if (Some n) = some n

-- 01, table of properties: the value of a number, if it is given
abbrev pub told_number_if : std.Option ℕ → Option (Val place.Span)
told_number_if m = on_some num (number_if m)

-- 01, table of properties: text or bytes, if they are given
abbrev pub told_string : std.Option Span → Option (Val place.Span)
told_string None = none
told_string (Some p) = some (str (told_span p))
