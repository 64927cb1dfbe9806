-- `pieces::if_whole` is right since each test is asked for, and 0 says nothing. Assumes nothing.
use mathlib.Core.Path.{sym, ◌∙◌}
use Rattle.records.specs.AsNumbers.{limit_of}
use Rattle.pieces.proofs.Laws.{no_frame_lem, whole}
use Rattle.pieces.proofs.if_whole.Goals as goal

pub returns-then-buffer_serves : goal.returns-then-buffer_serves
returns-then-buffer_serves c =
    let a = c.args in
    whole (limit_of a.limit) a.f a.n a.cap _ c.if-f-n.true c.if-f-cap.true (sym c.buffer_serves.ensures ∙ c.if-buffer_serves.true) c.if_under.ensures

pub returns-else-buffer_serves : goal.returns-else-buffer_serves
returns-else-buffer_serves c = no_frame_lem

pub returns-else-f-cap : goal.returns-else-f-cap
returns-else-f-cap c = no_frame_lem

pub returns-else-f-n : goal.returns-else-f-n
returns-else-f-n c = no_frame_lem
