-- 02, P10: what one call does with a piece: its answer, the bytes that it takes, and every byte of the buffer afterwards. Assumes nothing.
use Rattle.std.specs.Prelude.{Bool, ◌&&◌, cond, List, [], ◌++◌, ℕ, zero, suc, ◌+◌, ◌-◌, leb, length, take}
use Rattle.std.proofs.Math.Option.{Option, none, some}
use Rattle.std.proofs.lemmas.List.Edits.{sets}
use Rattle.reading.specs.Refusal.{Refusal, nr, Answer}
use Rattle.reading.specs.Place.{Placed, as_places, read_placed_of}
use Rattle.pieces_rules.specs.Whole.{answer_as, Turn, lacks, ends, frame, turn_of}

-- 02, P10: "BadBuffer"; docs/DECISIONS.md 29 has its number
abbrev pub bad_buffer : Refusal
bad_buffer = nr 35 []

-- how many bytes of "an unfinished frame" the front of the buffer keeps, and the refusal that ended the stream, if it has ended
pub record State : Type 0 where
  pub held : ℕ
  pub end : Option Refusal

-- i bytes are kept, and the stream goes on
abbrev pub waiting : ℕ → State
waiting i = record { held = i; end = none }

-- nothing is kept
abbrev pub fresh : State
fresh = waiting 0

-- no answer yet; what is said of a frame, which lies in the piece, or in the buffer; or a refusal that takes nothing
pub data Gives (X : Type 0) : Type 0 where
  more : Gives X
  inPiece inBuffer : X → Gives X
  stops : Refusal → Gives X

-- the answer, the bytes of the piece that it used up, the state and the buffer afterwards
pub record Step (X : Type 0) : Type 0 where
  pub gives : Gives X
  pub used : ℕ
  pub state : State
  pub buffer : List ℕ

-- 02, P10: "a lent buffer of 5 to 65,536 bytes", which holds what the state says that it does
unfoldable pub serves : ℕ → ℕ → Bool
serves held cap = leb 5 cap && (leb cap 65536 && leb held cap)

module _ {X : Type 0} (st : State) (b p : List ℕ) where
  -- the refusal k, which changes nothing
  abbrev pub refuses : Refusal → Step X
  refuses k = record { gives = stops k; used = 0; state = st; buffer = b }

  -- a frame of n bytes: whole in the piece it stays there; else "the piece that completes it" is put behind what is held, up to the frame's end
  abbrev pub frame_after : X → ℕ → ℕ → Step X
  frame_after a n zero = record { gives = inPiece a; used = n; state = fresh; buffer = b }
  frame_after a n (suc i) = record { gives = inBuffer a; used = n - suc i; state = fresh; buffer = sets b (suc i) (take (n - suc i) p) }

  -- 02, P10: "keeps an unfinished frame"; "end the stream"; "Each answer is given while the piece that completes it is taken in"
  abbrev pub step_from : Turn X → Step X
  step_from lacks = record { gives = more; used = length p; state = record { held = st.held + length p; end = none }; buffer = sets b st.held p }
  step_from (ends k) = record { gives = stops k; used = 0; state = record { held = st.held; end = some k }; buffer = b }
  step_from (frame a n) = frame_after a n st.held

  -- 02, P10: "later pieces repeat that refusal"
  abbrev pub step_on : (List ℕ → Turn X) → Option Refusal → Step X
  step_on turn none = step_from (turn (take st.held b ++ p))
  step_on turn (some k) = refuses k

  -- 02, P10: "any other length gets BadBuffer"
  unfoldable pub step_by : (List ℕ → Turn X) → Step X
  step_by turn = cond (serves st.held (length b)) (step_on turn st.end) (refuses bad_buffer)

-- F in place of what is said of the frame
abbrev pub length_in : {X : Type 0} → Turn X → Turn ℕ
length_in lacks = lacks
length_in (ends k) = ends k
length_in (frame a n) = frame n n

-- a call while the stream goes on, where i bytes are held; of a frame it is only said how long it is
abbrev pub called : Option ℕ → List ℕ → List ℕ → ℕ → Step ℕ
called limit b p i = step_from (waiting i) b p (length_in (turn_of (answer_as as_places limit (length b) (take i b ++ p))))

-- 02, P10: what a call answers, where the bytes held stand before the piece
abbrev pub step_of : State → List ℕ → List ℕ → Option ℕ → Step (Answer Placed)
step_of st b p limit = step_by st b p (λ s. turn_of (answer_as as_places limit (length b) s))

-- the same, where of a frame it is only said how long it is
abbrev pub found_of : State → List ℕ → List ℕ → Option ℕ → Step ℕ
found_of st b p limit = step_by st b p (λ s. length_in (turn_of (answer_as as_places limit (length b) s)))

module _ (limit : Option ℕ) (p : List ℕ) where
  -- 01's answer to a frame that was found, from its bytes where they lie: at the start of the piece p or of the buffer b
  abbrev pub read_in : List ℕ → Gives ℕ → Gives (Answer Placed)
  read_in b more = more
  read_in b (inPiece n) = inPiece (read_placed_of limit (take n p))
  read_in b (inBuffer n) = inBuffer (read_placed_of limit (take n b))
  read_in b (stops k) = stops k

  -- the same of a whole call
  abbrev pub read_step : Step ℕ → Step (Answer Placed)
  read_step o = record { gives = read_in o.buffer o.gives; used = o.used; state = o.state; buffer = o.buffer }
