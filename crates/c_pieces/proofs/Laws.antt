-- What the numbers of a state stand for, and what a call does with them. Assumes nothing.
use mathlib.Core.Path.{◌≡◌, ap, ◌∙◌}
use mathlib.Core.Option.{Option, none, some}
use mathlib.Core.List.{List}
use Prim.Native.Nat.{ℕ, ◌≤◌}
use lib.ListN.{length, get_or}
use lib.Seq.{sets}
use borrow.Author.Tests.{le-leb}
use Rattle.reading.specs.Refusal.{Refusal}
use Rattle.pieces_rules.specs.Step.{bad_buffer, State, fresh, stops, Step, found_of}
use Rattle.c_pieces.specs.Frame.{end_given, holding, state_given, state_numbers, frame_from, frame_for, kept_as, state_after}

module _ (s : List ℕ) (h : 4 ≤ length s) where
  pub given_none : none ≡ end_given (get_or s 1 0) (get_or s 2 0) (get_or s 3 0) → none ≡ state_given s
  given_none e = rw (le-leb 4 (length s) h) (ap (holding (get_or s 0 0)) e)

  pub given_some : (c : Option Refusal) → some c ≡ end_given (get_or s 1 0) (get_or s 2 0) (get_or s 3 0) → some (record { held = get_or s 0 0; end = c }) ≡ state_given s
  given_some c e = rw (le-leb 4 (length s) h) (ap (holding (get_or s 0 0)) e)

module _ (limit : Option ℕ) (s b p : List ℕ) where
  pub none_frame : {st : State} → none ≡ state_given s → st ≡ fresh → ◌≡◌ {A = Step ℕ} (record { gives = stops bad_buffer; used = 0; state = st; buffer = b }) (frame_for limit s b p)
  unfolding frame_for
  none_frame e d = rw d (ap (frame_from limit b p) e)

  pub some_frame : (st : State) → some st ≡ state_given s → {o : Step ℕ} → o ≡ found_of st b p limit → o ≡ frame_for limit s b p
  unfolding frame_for
  some_frame st e q = q ∙ ap (frame_from limit b p) e

pub none_kept : (s : List ℕ) (o : State) → none ≡ state_given s → s ≡ state_after s o
unfolding state_after
none_kept s o e = ap (kept_as s o) e

pub some_kept : (s : List ℕ) (o st : State) → some st ≡ state_given s → sets s 0 (state_numbers o) ≡ state_after s o
unfolding state_after
some_kept s o st e = ap (kept_as s o) e
