-- What the answer to a piece tells. Assumes nothing.
use Rattle.std.specs.Prelude.{List, ℕ, Result, Ok, Err}
use Rattle.reading.specs.Refusal.{Answer}
use Rattle.reading.specs.Place.{Placed}
use Rattle.records.specs.Answered.{told, Bounded}
use Rattle.pieces_rules.specs.Step.{Gives, more, inPiece, inBuffer, stops, Step}
use Rattle.pieces.specs.PieceAnswer.{told_stop, told_state}
use Rattle.pieces_read.specs.declared.Answer.TheVariants as answer
use Rattle.pieces_read.specs.declared.Answer as declared
use Rattle.pieces.specs.declared.Stop.{Stop}
use Rattle.pieces_read.specs.declared.Reply.{Reply}

-- 02, P10: a record or a refusal, and in which slice a record's places lie
abbrev pub told_answer : Result declared.Answer Stop → Gives (Answer Placed)
told_answer (Ok answer.More) = more
told_answer (Ok (answer.InPiece r)) = inPiece (told r)
told_answer (Ok (answer.InBuffer r)) = inBuffer (told r)
told_answer (Err k) = stops (told_stop k)

-- 02, P7: "Every record read shall also carry" its two numbers: they are those that the record itself says
abbrev pub Carries : Result declared.Answer Stop → Type 0
Carries (Ok answer.More) = Unit {0}
Carries (Ok (answer.InPiece r)) = Bounded r
Carries (Ok (answer.InBuffer r)) = Bounded r
Carries (Err k) = Unit {0}

-- the answer, with the buffer afterwards
abbrev pub told_reply : Reply → List ℕ → Step (Answer Placed)
told_reply s b = record { gives = told_answer s.answer; used = s.used; state = told_state s.state; buffer = b }
