-- `text_windows::by_windows` is right since the bytes before `i` fit, the loop's invariant, and at the end all do. Assumes nothing.
use Rattle.std.proofs.Common.{◌≡◌, ◌-◌, length, arith}
use Rattle.text_windows.proofs.Runs.{whole_text}
use Rattle.text_windows.proofs.by_windows.Goals as goal

pub returns : goal.returns
returns c =
    let l = c.loop-i in
    let s = c.args.s.now in
    let e : l.i ≡ length s = omega arith in
    whole_text s c.is_whole.result (rw e at l.invariant.2) c.is_whole.ensures
