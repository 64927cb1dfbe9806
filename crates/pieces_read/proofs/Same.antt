-- The answers of `pieces_read`: each comes back from what it tells and carries, and what it carries is what it tells, so that an input admits
-- one answer only. Assumes nothing.
use Rattle.std.specs.Prelude.{Result, Ok, Err}
use mathlib.Core.Path.{◌≡◌, refl, sym, ap, ◌∙◌}
use mathlib.Core.List.{List, []}
use Prim.Native.Nat.{ℕ}
use Rattle.reading.specs.Refusal as refusal
use Rattle.reading.specs.Reader.{Fit, bad}
use Rattle.reading.specs.Place.{Placed}
use Rattle.reading.specs.Bounds.{bounds_by}
use Rattle.records.specs.Answered.{carried}
use Rattle.records.proofs.Laws.{injective_by}
use Rattle.records.proofs.Answered.{back_read, back_read_lem}
use Rattle.pieces_rules.specs.Step.{Gives, more, inPiece, inBuffer, stops, Step}
use Rattle.pieces.proofs.Same.{back_stop, back_stop_lem, back_state, back_state_lem}
use Rattle.pieces_read.specs.PacketAnswer.{told_answer, told_reply, Carries}
use Rattle.pieces.specs.declared.Stop.{Stop}
use Rattle.pieces_read.specs.declared.Answer.{Answer}
use Rattle.pieces_read.specs.declared.Reply.{Reply}

-- no record, no numbers
abbrev no_numbers : Fit (ℕ × ℕ)
no_numbers = bad (refusal.nr 0 [])

-- 02, P7: the two numbers of an answer's record
abbrev carried_in : Result Answer Stop → Fit (ℕ × ℕ)
carried_in (Ok Answer.More) = no_numbers
carried_in (Ok (Answer.InPiece r)) = carried r
carried_in (Ok (Answer.InBuffer r)) = carried r
carried_in (Err k) = no_numbers

-- those that it says itself
abbrev said_in : Gives (refusal.Answer Placed) → Fit (ℕ × ℕ)
said_in more = no_numbers
said_in (inPiece a) = bounds_by a
said_in (inBuffer a) = bounds_by a
said_in (stops k) = no_numbers

said : (a : Result Answer Stop) → Carries a → carried_in a ≡ said_in (told_answer a)
said (Ok Answer.More) c = refl
said (Ok (Answer.InPiece r)) c = c
said (Ok (Answer.InBuffer r)) c = c
said (Err k) c = refl

abbrev back_answer : Gives (refusal.Answer Placed) × Fit (ℕ × ℕ) → Result Answer Stop
back_answer (more, f) = Ok Answer.More
back_answer (inPiece a, f) = Ok (Answer.InPiece (back_read (a, f)))
back_answer (inBuffer a, f) = Ok (Answer.InBuffer (back_read (a, f)))
back_answer (stops k, f) = Err (back_stop k)

abbrev answer_told : Result Answer Stop → Gives (refusal.Answer Placed) × Fit (ℕ × ℕ)
answer_told a = (told_answer a, carried_in a)

back_answer_lem : (a : Result Answer Stop) → back_answer (answer_told a) ≡ a
back_answer_lem (Ok Answer.More) = refl
back_answer_lem (Ok (Answer.InPiece r)) = ap (λ x. Ok (Answer.InPiece x)) (back_read_lem r)
back_answer_lem (Ok (Answer.InBuffer r)) = ap (λ x. Ok (Answer.InBuffer x)) (back_read_lem r)
back_answer_lem (Err k) = ap Err (back_stop_lem k)

pub answer_same : {a b : Result Answer Stop} → Carries a → Carries b → told_answer a ≡ told_answer b → a ≡ b
answer_same {a} {b} ca cb e =
    injective_by answer_told back_answer back_answer_lem
    (ap (λ f. (told_answer a, f)) (said a ca) ∙ ap (λ g. (g, said_in g)) e ∙ sym (ap (λ f. (told_answer b, f)) (said b cb)))

-- the reply and the buffer afterwards
abbrev reply_told : Reply × List ℕ → Step (refusal.Answer Placed)
reply_told z = told_reply z.0 z.1

abbrev reply_all : Reply × List ℕ → Step (refusal.Answer Placed) × Fit (ℕ × ℕ)
reply_all z = (reply_told z, carried_in z.0.answer)

abbrev back_reply : Step (refusal.Answer Placed) × Fit (ℕ × ℕ) → Reply × List ℕ
back_reply (o, f) = (record { answer = back_answer (o.gives, f); used = o.used; state = back_state o.state }, o.buffer)

back_reply_lem : (z : Reply × List ℕ) → back_reply (reply_all z) ≡ z
back_reply_lem z = simp (back_answer_lem, back_state_lem)

pub reply_same : {a b : Reply × List ℕ} → Carries a.0.answer → Carries b.0.answer → reply_told a ≡ reply_told b → a ≡ b
reply_same {a} {b} ca cb e =
    injective_by reply_all back_reply back_reply_lem
    (ap (λ f. (reply_told a, f)) (said a.0.answer ca) ∙ ap (λ o. (o, said_in o.gives)) e ∙ sym (ap (λ f. (reply_told b, f)) (said b.0.answer cb)))
