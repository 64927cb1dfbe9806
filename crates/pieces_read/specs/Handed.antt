-- A stream handed over piece by piece to `pieces_read::next`, and what its answers list. Assumes nothing.
use Rattle.std.specs.Prelude.{◌≡◌, List, [], ◌∷◌, ◌++◌, ℕ, drop, Option}
use Rattle.grammar.specs.Sentence.{Packet}
use Rattle.reading.specs.Refusal.{Refusal, Answer}
use Rattle.reading.specs.Reader.{Fit}
use Rattle.reading.specs.Place.{Placed, say_answer}
use Rattle.records.specs.AsNumbers.{limit_of}
use Rattle.pieces_rules.specs.Step.{more, inPiece, inBuffer, stops, step_of}
use Rattle.pieces_rules.specs.Feed.{once}
use Rattle.pieces.specs.PieceAnswer.{told_end, told_state}
use Rattle.pieces.specs.declared.State.{State}
use Rattle.pieces_read.specs.PacketAnswer.{told_answer, told_reply}
use Rattle.pieces_read.specs.declared.Reply.{Reply}

-- the first clause of the contract of `next`: the reply r, and the buffer b' afterwards; the second (`Carries`) fixes P7's two numbers
abbrev pub Meets : Option ℕ → State → List ℕ → List ℕ → Reply → List ℕ → Type 0
Meets limit st b p r b' = told_reply r b' ≡ step_of (told_state st) b p (limit_of limit)

-- the calls for the piece p, each with what is left of it, until one gives no frame; what they list, and the state and the buffer afterwards
pub data Calls (limit : Option ℕ) : State → List ℕ → List ℕ → List (Fit (Answer Packet)) → State → List ℕ → Type 0 where
  waiting : {st : State} {b p b' : List ℕ} (r : Reply) → Meets limit st b p r b' → told_answer r.answer ≡ more → Calls limit st b p [] r.state b'
  stopped : {st : State} {b p b' : List ℕ} (r : Reply) (k : Refusal) → Meets limit st b p r b' → told_answer r.answer ≡ stops k → Calls limit st b p (once (told_end st.end) k) r.state b'
  from_piece : {st st'' : State} {b p b' b'' : List ℕ} {l : List (Fit (Answer Packet))} (r : Reply) (a : Answer Placed) → Meets limit st b p r b' → told_answer r.answer ≡ inPiece a
      → Calls limit r.state b' (drop r.used p) l st'' b'' → Calls limit st b p (say_answer p a ∷ l) st'' b''
  from_buffer : {st st'' : State} {b p b' b'' : List ℕ} {l : List (Fit (Answer Packet))} (r : Reply) (a : Answer Placed) → Meets limit st b p r b' → told_answer r.answer ≡ inBuffer a
      → Calls limit r.state b' (drop r.used p) l st'' b'' → Calls limit st b p (say_answer b' a ∷ l) st'' b''

-- the pieces one after the other: "While one limit and one buffer serve and nobody else writes the buffer"
pub data Handed (limit : Option ℕ) : State → List ℕ → List (List ℕ) → List (Fit (Answer Packet)) → Type 0 where
  none : {st : State} {b : List ℕ} → Handed limit st b [] []
  next : {st st' : State} {b b' p : List ℕ} {ps : List (List ℕ)} {l m : List (Fit (Answer Packet))} → Calls limit st b p l st' b' → Handed limit st' b' ps m → Handed limit st b (p ∷ ps) (l ++ m)
