-- `packet::read` is right since what `check` refuses takes nothing, and the answer to the frame that it finds is the answer to the stream. Assumes nothing.
use Rattle.std.specs.Prelude.{Err}
use mathlib.Core.Path.{sym, ap, ◌∙◌}
use native.Mathlib.Omega.{arith}
use Rattle.records.specs.AsNumbers.{told_error, limit_of}
use Rattle.framing.specs.HeaderRead.{told_checked}
use Rattle.packet.proofs.Laws.{frame_end, frame_count, answer_none, answer_whole, refusing, promised}
use Rattle.packet.proofs.read.Goals as goal

pub returns-in-Err : goal.returns-in-Err
returns-in-Err c =
    let a = c.args in
    let k = c.in-Err.e in
    let p = promised a.limit a.stream.now (Err (k, 0))
    (refusing (answer_none (limit_of a.limit) a.stream.now (told_error k) (sym (ap (told_checked a.stream.now) c.in-Err.is) ∙ c.check.ensures))) in
    record { answer = p.0; within = p.1.0; verdict = p.1.1 }

pub slice_bounds-read_frame-end : goal.slice_bounds-read_frame-end
slice_bounds-read_frame-end c =
    let a = c.args in
    let e = sym (ap (told_checked a.stream.now) c.in-Ok.is) ∙ c.check.ensures in
    frame_count (limit_of a.limit) a.stream.now _ _ _ e _ c.frame_length-end.ensures

pub returns-in-Ok : goal.returns-in-Ok
returns-in-Ok c =
    let a = c.args in
    let e = sym (ap (told_checked a.stream.now) c.in-Ok.is) ∙ c.check.ensures in
    let n = frame_end (limit_of a.limit) a.stream.now _ _ _ e _ c.frame_length-end.ensures (omega arith) in
    let t = c.read_frame.ensures in
    let p = promised a.limit a.stream.now c.read_frame.result (record { answer = answer_whole (limit_of a.limit) a.stream.now _ _ _ e _ n t.answer; bounded = t.bounded }) in
    record { answer = p.0; within = p.1.0; verdict = p.1.1 }
