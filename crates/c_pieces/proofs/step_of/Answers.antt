-- `c_pieces::step_of` is right since numbers that stand for no state change nothing, and others are the state of the call. Assumes nothing.
use mathlib.Core.Path.{◌∙◌}
use Rattle.c_pieces.proofs.Laws.{none_frame, some_frame, none_kept, some_kept}
use Rattle.c_pieces.proofs.step_of.Goals as goal

pub returns-in_default : goal.returns-in_default
returns-in_default c =
    let e = rw c.in_default.is at c.state_of.ensures in
    record { step = none_frame _ _ _ _ e c.start.ensures; kept = none_kept _ _ e }

pub returns : goal.returns
returns c =
    let e = rw c.in-Some.is at c.state_of.ensures in
    record { step = some_frame _ _ _ _ _ e c.step_from.ensures.step; kept = c.step_from.ensures.kept ∙ some_kept _ _ _ e }
