-- `c_pieces::ecch_next_frame` is right since what is returned and stored is of the step that the numbers stand for. Assumes nothing.
use mathlib.Core.Path.{ap, ◌∙◌}
use Prim.Native.Nat.{ℕ}
use lib.Seq.{sets}
use Rattle.pieces_rules.specs.Step.{Step}
use Rattle.c_pieces.specs.Frame.{gave_number, frame_numbers, state_after}
use Rattle.c_pieces.proofs.ecch_next_frame.Goals as goal

pub returns : goal.returns
returns c =
    let a = c.args in
    let q = rw c.bound.ensures at c.step_of-step.ensures.step in
    record { number = c.store_frame.ensures.number ∙ ap (λ (o : Step ℕ). gave_number o.gives) q; kept = c.step_of-step.ensures.kept ∙ ap (λ (o : Step ℕ). state_after a.state.now o.state) q; held = ap (λ (o : Step ℕ). o.buffer) q; stored = c.store_frame.ensures.stored ∙ ap (λ (o : Step ℕ). sets a.into.now 0 (frame_numbers o.gives o.used)) q }
