-- The answers of `pieces`: each comes back from what it tells, so that an input admits one answer only. Assumes nothing.
use Rattle.std.specs.Prelude as std
use Rattle.std.specs.Prelude.{Some, None, Result, Ok, Err}
use mathlib.Core.Path.{◌≡◌, refl, ap, ◌∙◌}
use mathlib.Core.Bool.{cond}
use mathlib.Core.Option.{Option, none, some}
use mathlib.Core.List.{List}
use Prim.Native.Nat.{ℕ}
use lib.Dec.{eqb}
use Rattle.reading.specs.Refusal.{Refusal, nr}
use Rattle.records.specs.AsNumbers.{told_error}
use Rattle.records.proofs.Laws.{injective_by}
use Rattle.records.proofs.AsNumbers.{back_error, back_error_lem}
use Rattle.records.specs.declared.error.Error.{Error}
use Rattle.pieces_rules.specs.Step.{Gives, more, inPiece, inBuffer, stops}
use Rattle.pieces_rules.specs.Step as step
use Rattle.pieces.specs.PieceAnswer.{told_stop, told_end, told_state, told_given, told_step}
use Rattle.pieces.specs.declared.Stop.{Stop}
use Rattle.pieces.specs.declared.State.{State}
use Rattle.pieces.specs.declared.Given.{Given}
use Rattle.pieces.specs.declared.Step.{Step}

pub back_stop : Refusal → Stop
back_stop (nr k vs) = cond (eqb k 35) Stop.BadBuffer (cond (eqb k 36) Stop.FrameTooLong (Stop.Header (back_error (nr k vs))))

-- no refusal of 01 has one of the two numbers
back_header_lem : (e : Error) → back_stop (told_error e) ≡ Stop.Header (back_error (told_error e))
unfolding back_stop
back_header_lem (Error.InsufficientBytes n) = refl
back_header_lem Error.MalformedRemainingLength = refl
back_header_lem (Error.PayloadSizeLimitExceeded r m) = refl
back_header_lem (Error.InvalidPacketType k) = refl
back_header_lem Error.PayloadRequired = refl
back_header_lem (Error.KindNotCarried k) = refl
back_header_lem Error.MalformedPacket = refl
back_header_lem (Error.BoundaryCrossed n) = refl
back_header_lem Error.TopicNotUtf8 = refl
back_header_lem (Error.InvalidPropertyType k) = refl
back_header_lem (Error.InvalidQoS q) = refl
back_header_lem Error.PacketIdZero = refl
back_header_lem Error.EmptySubscription = refl
back_header_lem (Error.InvalidRetainForwardRule r) = refl
back_header_lem (Error.InvalidReason k) = refl
back_header_lem (Error.OutgoingPacketTooLarge n m) = refl
back_header_lem Error.PayloadTooLong = refl
back_header_lem (Error.StringTooLong n) = refl
back_header_lem (Error.NoRoom n) = refl
back_header_lem Error.ListMismatch = refl
back_header_lem Error.NoItem = refl
back_header_lem (Error.DuplicateProperty k) = refl
back_header_lem Error.SubscriptionIdZero = refl

pub back_stop_lem : (k : Stop) → back_stop (told_stop k) ≡ k
unfolding back_stop
back_stop_lem (Stop.Header e) = back_header_lem e ∙ ap Stop.Header (back_error_lem e)
back_stop_lem Stop.BadBuffer = refl
back_stop_lem Stop.FrameTooLong = refl

abbrev back_end : Option Refusal → std.Option Stop
back_end none = None
back_end (some k) = Some (back_stop k)

back_end_lem : (e : std.Option Stop) → back_end (told_end e) ≡ e
back_end_lem None = refl
back_end_lem (Some k) = ap Some (back_stop_lem k)

abbrev pub back_state : step.State → State
back_state s = record { held = s.held; end = back_end s.end }

pub back_state_lem : (s : State) → back_state (told_state s) ≡ s
back_state_lem s = simp back_end_lem

abbrev back_given : Gives ℕ → Result Given Stop
back_given more = Ok Given.More
back_given (inPiece n) = Ok (Given.InPiece n)
back_given (inBuffer n) = Ok (Given.InBuffer n)
back_given (stops k) = Err (back_stop k)

back_given_lem : (g : Result Given Stop) → back_given (told_given g) ≡ g
back_given_lem (Ok Given.More) = refl
back_given_lem (Ok (Given.InPiece n)) = refl
back_given_lem (Ok (Given.InBuffer n)) = refl
back_given_lem (Err k) = ap Err (back_stop_lem k)

abbrev back_step : step.Step ℕ → Step × List ℕ
back_step o = (record { given = back_given o.gives; used = o.used; state = back_state o.state }, o.buffer)

-- ---- one answer only

pub stop_same : {a b : Stop} → told_stop a ≡ told_stop b → a ≡ b
stop_same = injective_by told_stop back_stop back_stop_lem

pub state_same : {a b : State} → told_state a ≡ told_state b → a ≡ b
state_same = injective_by told_state back_state back_state_lem

-- the answer and the buffer afterwards
abbrev step_told : Step × List ℕ → step.Step ℕ
step_told z = told_step z.0 z.1

back_step_lem : (z : Step × List ℕ) → back_step (step_told z) ≡ z
back_step_lem z = simp (back_given_lem, back_end_lem)

pub step_same : {a b : Step × List ℕ} → step_told a ≡ step_told b → a ≡ b
step_same = injective_by step_told back_step back_step_lem
