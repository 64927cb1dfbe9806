-- What a state and the answer to a piece tell, in numbers and values. Assumes nothing.
use Rattle.std.specs.Prelude as std
use Rattle.std.specs.Prelude.{◌≡◌, true, List, ℕ, ◌≤◌, ◌<◌, length, Some, None, Result, Ok, Err}
use Rattle.std.proofs.Math.Option.{Option, none, some}
use Rattle.reading.specs.Refusal.{Refusal}
use Rattle.records.specs.AsNumbers.{told_error}
use Rattle.pieces_rules.specs.Whole.{frame_too_long}
use Rattle.pieces_rules.specs.Step.{bad_buffer, Gives, more, inPiece, inBuffer, stops, serves}
use Rattle.pieces_rules.specs.Step as step
use Rattle.pieces_rules.specs.Judge.{Judge, unknown, forbids, spans, judge_of}
use Rattle.pieces.specs.declared.Stop.{Stop}
use Rattle.pieces.specs.declared.State.{State}
use Rattle.pieces.specs.declared.Given.{Given}
use Rattle.pieces.specs.declared.Step.{Step}

-- 02, P10: "BadBuffer", "FrameTooLong", and "Refusals 2 and 3 of the header", by their numbers
abbrev pub told_stop : Stop → Refusal
told_stop (Stop.Header e) = told_error e
told_stop Stop.BadBuffer = bad_buffer
told_stop Stop.FrameTooLong = frame_too_long

-- 02, P10: what has ended the stream, if it has ended
abbrev pub told_end : std.Option Stop → Option Refusal
told_end None = none
told_end (Some k) = some (told_stop k)

-- what is kept
abbrev pub told_state : State → step.State
told_state s = record { held = s.held; end = told_end s.end }

-- where a frame lies, and F; or the refusal
abbrev pub told_given : Result Given Stop → Gives ℕ
told_given (Ok Given.More) = more
told_given (Ok (Given.InPiece n)) = inPiece n
told_given (Ok (Given.InBuffer n)) = inBuffer n
told_given (Err k) = stops (told_stop k)

-- the answer, with the buffer afterwards
abbrev pub told_step : Step → List ℕ → step.Step ℕ
told_step s b = record { gives = told_given s.given; used = s.used; state = told_state s.state; buffer = b }

-- what a header says
abbrev pub told_judged : Result (std.Option ℕ) Stop → Judge
told_judged (Ok None) = unknown
told_judged (Ok (Some n)) = spans n
told_judged (Err k) = forbids (told_stop k)

-- 0, or F of a frame that stands whole at the start of s, and that neither the limit nor a buffer of cap bytes refuses
abbrev pub WholeIn : Option ℕ → ℕ → List ℕ → ℕ → Type 0
WholeIn limit cap s r = 0 < r → (serves 0 cap ≡ true) × (r ≤ length s) × (spans r ≡ judge_of limit cap s)
