-- Refusals, numbers and single values: each comes back from what it tells, so that what is told leaves no choice of it. Assumes nothing.
use Rattle.std.specs.Prelude as std
use Rattle.std.specs.Prelude.{Some, None}
use mathlib.Core.Path.{◌≡◌, refl}
use mathlib.Core.Bool.{Bool, true, false}
use mathlib.Core.Option.{Option, none, some}
use mathlib.Core.List.{List, [], ◌∷◌}
use Prim.Native.Nat.{ℕ, zero, suc}
use lib.ListN.{get_or}
use Rattle.grammar.specs.Choice.{lookup}
use Rattle.grammar.specs.Record.{Val, num, str, duo}
use Rattle.reading.specs.Refusal.{Refusal, nr}
use Rattle.reading.specs.Reader.{Fit, got, bad}
use Rattle.reading.specs.Place as place
use Rattle.records.specs.AsNumbers.{told_error, told_values, limit_of, told_bool, told_qos, told_ack_kind, told_reply_kind, told_rule, told_span, back_span, told_number_if, told_string}
use Rattle.records.specs.declared.error.Error.{Error}
use Rattle.records.specs.declared.ack_record.AckKind.{AckKind}
use Rattle.records.specs.declared.reply_record.ReplyKind.{ReplyKind}
use Rattle.records.specs.declared.qos.QoS.{QoS}
use Rattle.records.specs.declared.values.Values.{Values}
use Rattle.records.specs.declared.span.Span.{Span}
use Rattle.records.specs.declared.subscribe_record.RetainForwardRule.{RetainForwardRule}
use Rattle.records.proofs.Laws.{injective_by}

-- ---- refusals

-- the entry that was found, else the other
abbrev or_else : {A : Type 0} → A → Option A → A
or_else a none = a
or_else a (some b) = b

-- the refusal of each row, from its first and its second value
rows : List (ℕ × (ℕ → ℕ → Error))
rows =
    (1, λ m n. Error.InsufficientBytes m) ∷
    (2, λ m n. Error.MalformedRemainingLength) ∷
    (3, λ m n. Error.PayloadSizeLimitExceeded m n) ∷
    (4, λ m n. Error.InvalidPacketType m) ∷
    (5, λ m n. Error.PayloadRequired) ∷
    (6, λ m n. Error.KindNotCarried m) ∷
    (7, λ m n. Error.MalformedPacket) ∷
    (8, λ m n. Error.BoundaryCrossed m) ∷
    (9, λ m n. Error.TopicNotUtf8) ∷
    (10, λ m n. Error.InvalidPropertyType m) ∷
    (11, λ m n. Error.InvalidQoS m) ∷
    (12, λ m n. Error.PacketIdZero) ∷
    (13, λ m n. Error.EmptySubscription) ∷
    (14, λ m n. Error.InvalidRetainForwardRule m) ∷
    (15, λ m n. Error.InvalidReason m) ∷
    (16, λ m n. Error.OutgoingPacketTooLarge m n) ∷
    (17, λ m n. Error.PayloadTooLong) ∷
    (18, λ m n. Error.StringTooLong m) ∷
    (19, λ m n. Error.NoRoom m) ∷
    (20, λ m n. Error.ListMismatch) ∷
    (21, λ m n. Error.NoItem) ∷
    (22, λ m n. Error.DuplicateProperty m) ∷
    []

-- row 23 where it is none of the others
pub back_error : Refusal → Error
back_error (nr k vs) = or_else (λ m n. Error.SubscriptionIdZero) (lookup rows k) (get_or vs 0 0) (get_or vs 1 0)

pub back_error_lem : (e : Error) → back_error (told_error e) ≡ e
unfolding rows back_error
back_error_lem (Error.InsufficientBytes n) = refl
back_error_lem Error.MalformedRemainingLength = refl
back_error_lem (Error.PayloadSizeLimitExceeded r m) = refl
back_error_lem (Error.InvalidPacketType k) = refl
back_error_lem Error.PayloadRequired = refl
back_error_lem (Error.KindNotCarried k) = refl
back_error_lem Error.MalformedPacket = refl
back_error_lem (Error.BoundaryCrossed n) = refl
back_error_lem Error.TopicNotUtf8 = refl
back_error_lem (Error.InvalidPropertyType k) = refl
back_error_lem (Error.InvalidQoS q) = refl
back_error_lem Error.PacketIdZero = refl
back_error_lem Error.EmptySubscription = refl
back_error_lem (Error.InvalidRetainForwardRule r) = refl
back_error_lem (Error.InvalidReason k) = refl
back_error_lem (Error.OutgoingPacketTooLarge n m) = refl
back_error_lem Error.PayloadTooLong = refl
back_error_lem (Error.StringTooLong n) = refl
back_error_lem (Error.NoRoom n) = refl
back_error_lem Error.ListMismatch = refl
back_error_lem Error.NoItem = refl
back_error_lem (Error.DuplicateProperty k) = refl
back_error_lem Error.SubscriptionIdZero = refl

pub error_injective : {a b : Error} → told_error a ≡ told_error b → a ≡ b
error_injective = injective_by told_error back_error back_error_lem

-- back to an answer that is a value or a refusal
abbrev pub back_fit : {B R : Type 0} → (B → R) → (Error → R) → Fit B → R
back_fit value refused (got b) = value b
back_fit value refused (bad k) = refused (back_error k)

pub back_values : List ℕ → Values
back_values [] = Values.None
back_values (m ∷ []) = Values.One m
back_values (m ∷ n ∷ l) = Values.Two m n

pub back_values_lem : (v : Values) → back_values (told_values v) ≡ v
unfolding back_values
back_values_lem Values.None = refl
back_values_lem (Values.One n) = refl
back_values_lem (Values.Two m n) = refl

pub back_limit : Option ℕ → std.Option ℕ
back_limit none = None
back_limit (some n) = Some n

pub back_limit_lem : (l : std.Option ℕ) → back_limit (limit_of l) ≡ l
unfolding back_limit
back_limit_lem None = refl
back_limit_lem (Some n) = refl

-- ---- numbers

pub back_bool : ℕ → Bool
back_bool zero = false
back_bool (suc n) = true

pub back_bool_lem : (b : Bool) → back_bool (told_bool b) ≡ b
unfolding back_bool
back_bool_lem false = refl
back_bool_lem true = refl

pub back_qos : ℕ → QoS
back_qos zero = QoS.AtMostOnce
back_qos (suc zero) = QoS.AtLeastOnce
back_qos (suc (suc n)) = QoS.ExactlyOnce

pub back_qos_lem : (q : QoS) → back_qos (told_qos q) ≡ q
unfolding back_qos
back_qos_lem QoS.AtMostOnce = refl
back_qos_lem QoS.AtLeastOnce = refl
back_qos_lem QoS.ExactlyOnce = refl

-- the last where it is none of the others
pub back_ack_kind : ℕ → AckKind
back_ack_kind k = or_else AckKind.PubComp (lookup ((4, AckKind.PubAck) ∷ (5, AckKind.PubRec) ∷ (6, AckKind.PubRel) ∷ []) k)

pub back_ack_kind_lem : (a : AckKind) → back_ack_kind (told_ack_kind a) ≡ a
unfolding back_ack_kind
back_ack_kind_lem AckKind.PubAck = refl
back_ack_kind_lem AckKind.PubRec = refl
back_ack_kind_lem AckKind.PubRel = refl
back_ack_kind_lem AckKind.PubComp = refl

pub back_reply_kind : ℕ → ReplyKind
back_reply_kind k = or_else ReplyKind.UnsubAck (lookup ((9, ReplyKind.SubAck) ∷ []) k)

pub back_reply_kind_lem : (a : ReplyKind) → back_reply_kind (told_reply_kind a) ≡ a
unfolding back_reply_kind
back_reply_kind_lem ReplyKind.SubAck = refl
back_reply_kind_lem ReplyKind.UnsubAck = refl

pub back_rule : ℕ → RetainForwardRule
back_rule zero = RetainForwardRule.OnEverySubscribe
back_rule (suc zero) = RetainForwardRule.OnNewSubscribe
back_rule (suc (suc n)) = RetainForwardRule.Never

pub back_rule_lem : (r : RetainForwardRule) → back_rule (told_rule r) ≡ r
unfolding back_rule
back_rule_lem RetainForwardRule.OnEverySubscribe = refl
back_rule_lem RetainForwardRule.OnNewSubscribe = refl
back_rule_lem RetainForwardRule.Never = refl

-- ---- places, and values of properties

pub back_span_lem : (p : Span) → back_span (told_span p) ≡ p
back_span_lem p = refl

-- the number of a value
abbrev pub number_in : Val place.Span → ℕ
number_in (num n) = n
number_in (str p) = 0
number_in (duo p q) = 0

-- the place of a value
abbrev span_in : Val place.Span → Span
span_in (num n) = record { start = 0; len = 0 }
span_in (str p) = back_span p
span_in (duo p q) = back_span p

pub back_number_if : Option (Val place.Span) → std.Option ℕ
back_number_if none = None
back_number_if (some v) = Some (number_in v)

pub back_number_if_lem : (m : std.Option ℕ) → back_number_if (told_number_if m) ≡ m
unfolding back_number_if
back_number_if_lem None = refl
back_number_if_lem (Some n) = refl

pub back_string : Option (Val place.Span) → std.Option Span
back_string none = None
back_string (some v) = Some (span_in v)

pub back_string_lem : (m : std.Option Span) → back_string (told_string m) ≡ m
unfolding back_string
back_string_lem None = refl
back_string_lem (Some p) = refl
