-- 02, P10: the list of a stream that is handed over piece by piece. Assumes nothing.
use Rattle.std.proofs.Math.Option.{Option, none, some}
use Rattle.std.specs.Prelude.{List, [], ◌∷◌, ◌++◌, ℕ, drop}
use Rattle.grammar.specs.Sentence.{Packet}
use Rattle.reading.specs.Refusal.{Refusal, Answer, refused_as}
use Rattle.reading.specs.Reader.{Fit, got}
use Rattle.reading.specs.Place.{Placed, say_answer}
use Rattle.pieces_rules.specs.Step.{State, Gives, more, inPiece, inBuffer, stops, Step, step_of}

-- what is listed, records by what their places say; and the state and the buffer afterwards
pub record Fed : Type 0 where
  pub list : List (Fit (Answer Packet))
  pub state : State
  pub buffer : List ℕ

-- one more in front
abbrev pub before : Fit (Answer Packet) → Fed → Fed
before a f = record { list = a ∷ f.list; state = f.state; buffer = f.buffer }

-- 02, P10: "later pieces repeat that refusal, which the list holds once"
abbrev pub once : Option Refusal → Refusal → List (Fit (Answer Packet))
once none k = got (refused_as k 0) ∷ []
once (some _) k = []

-- the next call, with what is left of the piece p, if one is due
abbrev pub feed_on : State → List ℕ → Step (Answer Placed) → Gives (Answer Placed) → (State → List ℕ → List ℕ → Fed) → Fed
feed_on st p o more next = record { list = []; state = o.state; buffer = o.buffer }
feed_on st p o (stops k) next = record { list = once st.end k; state = o.state; buffer = o.buffer }
feed_on st p o (inPiece a) next = before (say_answer p a) (next o.state o.buffer (drop o.used p))
feed_on st p o (inBuffer a) next = before (say_answer o.buffer a) (next o.state o.buffer (drop o.used p))

module _ (limit : Option ℕ) where
  -- the calls for the piece p; the first list bounds their number
  unfoldable pub feed_from : List ℕ → State → List ℕ → List ℕ → Fed
  feed_from [] st b p = record { list = []; state = st; buffer = b }
  feed_from (y ∷ f) st b p = feed_on st p (step_of st b p limit) (step_of st b p limit).gives (λ st' b' p'. feed_from f st' b' p')

  -- a piece: one call more than it has bytes is enough
  unfoldable pub feed : State → List ℕ → List ℕ → Fed
  feed st b p = feed_from (0 ∷ p) st b p

  -- the pieces one after the other; "While one limit and one buffer serve and nobody else writes the buffer"
  unfoldable pub feed_all : State → List ℕ → List (List ℕ) → Fed
  feed_all st b [] = record { list = []; state = st; buffer = b }
  feed_all st b (p ∷ ps) =
      let f : Fed = feed st b p in
      let g : Fed = feed_all f.state f.buffer ps in
      record { list = f.list ++ g.list; state = g.state; buffer = g.buffer }
