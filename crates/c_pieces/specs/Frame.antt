-- What C hands over as a state, and what it is handed back: bindings/c/ecchjulmina.h, enum ecch_state_layout and enum ecch_frame_layout. Assumes nothing.
use Rattle.std.specs.Prelude as std
use Rattle.std.specs.Prelude.{cond, List, [], ◌∷◌, ℕ, eqb, leb, length, get_or, Some, None}
use Rattle.std.proofs.Math.Option.{Option, none, some}
use Rattle.std.proofs.lemmas.List.Edits.{sets}
use Rattle.reading.specs.Refusal.{Refusal, nr}
use Rattle.records.specs.AsNumbers.{row_of, values_of}
use Rattle.c_layout.specs.Value.{value_or_zero}
use Rattle.pieces_rules.specs.Whole.{frame_too_long}
use Rattle.pieces_rules.specs.Step.{bad_buffer, State, fresh, Gives, more, inPiece, inBuffer, stops, Step, refuses, found_of}
use Rattle.pieces.specs.PieceAnswer.{told_end, told_state}
use Rattle.pieces.specs.declared.State as piece
use Rattle.pieces.specs.declared.Stop.{Stop}

-- header, ECCH_STATE_ENDED: "0 while the stream goes on, else the refusal that ended it: 2, 3 or 36"
abbrev pub end_given : ℕ → ℕ → ℕ → Option (Option Refusal)
end_given k m n =
    cond (eqb k 0) (some none)
    (cond (eqb k 2) (some (some (nr 2 [])))
    (cond (eqb k 3) (some (some (nr 3 (m ∷ n ∷ []))))
    (cond (eqb k 36) (some (some frame_too_long)) none)))

abbrev pub told_got_end : std.Option (std.Option Stop) → Option (Option Refusal)
told_got_end None = none
told_got_end (Some e) = some (told_end e)

-- so many bytes held, where it is known how the stream stands
abbrev pub holding : ℕ → Option (Option Refusal) → Option State
holding i none = none
holding i (some e) = some (record { held = i; end = e })

-- header: "a state has four numbers"
abbrev pub state_given : List ℕ → Option State
state_given s = cond (leb 4 (length s)) (holding (get_or s 0 0) (end_given (get_or s 1 0) (get_or s 2 0) (get_or s 3 0))) none

abbrev pub told_got_state : std.Option piece.State → Option State
told_got_state None = none
told_got_state (Some s) = some (told_state s)

-- the numbers behind the bytes held: what ended the stream, and its values
abbrev pub end_numbers : Option Refusal → List ℕ
end_numbers none = 0 ∷ 0 ∷ 0 ∷ []
end_numbers (some k) = row_of k ∷ value_or_zero (values_of k) 0 ∷ value_or_zero (values_of k) 1 ∷ []

-- header, enum ecch_state_layout
abbrev pub state_numbers : State → List ℕ
state_numbers s = s.held ∷ end_numbers s.end

-- header: "0, or the refusal's number"
abbrev pub gave_number : Gives ℕ → ℕ
gave_number more = 0
gave_number (inPiece n) = 0
gave_number (inBuffer n) = 0
gave_number (stops k) = row_of k

-- header, enum ecch_frame_layout
abbrev pub frame_numbers : Gives ℕ → ℕ → List ℕ
frame_numbers more used = used ∷ 0 ∷ 0 ∷ 0 ∷ 0 ∷ []
frame_numbers (inPiece n) used = used ∷ 0 ∷ 0 ∷ 1 ∷ n ∷ []
frame_numbers (inBuffer n) used = used ∷ 0 ∷ 0 ∷ 2 ∷ n ∷ []
frame_numbers (stops k) used = used ∷ value_or_zero (values_of k) 0 ∷ value_or_zero (values_of k) 1 ∷ 0 ∷ 0 ∷ []

module _ (limit : Option ℕ) (b p : List ℕ) where
  -- header: "numbers that stand for no state get 35"
  abbrev pub frame_from : Option State → Step ℕ
  frame_from none = refuses fresh b p bad_buffer
  frame_from (some st) = found_of st b p limit

-- the call, where s is handed over as the state
unfoldable pub frame_for : Option ℕ → List ℕ → List ℕ → List ℕ → Step ℕ
frame_for limit s b p = frame_from limit b p (state_given s)

-- the state's numbers afterwards, where o is the state then
abbrev pub kept_as : List ℕ → State → Option State → List ℕ
kept_as s o none = s
kept_as s o (some st) = sets s 0 (state_numbers o)

unfoldable pub state_after : List ℕ → State → List ℕ
state_after s o = kept_as s o (state_given s)
