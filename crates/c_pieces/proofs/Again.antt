-- The numbers of a state are read back as the state: "later pieces repeat that refusal" through C too. And where a frame lies, as the header has it.
-- Assumes nothing.
use mathlib.Core.Path.{◌≡◌, refl}
use mathlib.Core.Option.{Option, none, some}
use mathlib.Core.List.{[], ◌∷◌}
use Prim.Native.Nat.{ℕ}
use lib.ListN.{get_or}
use Rattle.reading.specs.Refusal.{Refusal, nr}
use Rattle.pieces_rules.specs.Whole.{frame_too_long}
use Rattle.pieces_rules.specs.Step.{more, inPiece, inBuffer, stops}
use Rattle.c_pieces.specs.Frame.{state_given, state_numbers, frame_numbers}

-- 02, P10: "Refusals 2 and 3 of the header, and FrameTooLong, end the stream"
pub data Ends : Option Refusal → Type 0 where
  going : Ends none
  malformed : Ends (some (nr 2 []))
  exceeded : (size limit : ℕ) → Ends (some (nr 3 (size ∷ limit ∷ [])))
  too_long : Ends (some frame_too_long)

pub state_again : (i : ℕ) {e : Option Refusal} → Ends e → state_given (state_numbers (record { held = i; end = e })) ≡ some (record { held = i; end = e })
state_again i going = refl
state_again i malformed = refl
state_again i (exceeded size limit) = refl
state_again i too_long = refl

-- header, ECCH_FRAME_PLACE: "1: a frame at the start of the piece; 2: at the start of the buffer; 0: none"
pub place_told : (n used : ℕ) (k : Refusal)
    → (get_or (frame_numbers (inPiece n) used) 3 0 ≡ 1) × (get_or (frame_numbers (inBuffer n) used) 3 0 ≡ 2)
    × (get_or (frame_numbers more used) 3 0 ≡ 0) × (get_or (frame_numbers (stops k) used) 3 0 ≡ 0)
place_told n used k = (refl, refl, refl, refl)
