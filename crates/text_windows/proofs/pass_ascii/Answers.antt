-- `text_windows::pass_ascii` is right since the bytes before `i` are ASCII, the loop's invariant. Assumes nothing.
use Rattle.std.proofs.Common.{◌≡◌, ◌+◌, ◌-◌, sym, ◌∙◌, arith}
use Rattle.text_windows.proofs.Runs.{ascii_more}
use Rattle.text_windows.proofs.pass_ascii.Goals as goal

pub loop-i-preserved : goal.loop-i-preserved
loop-i-preserved g c =
    let i = c.loop-i.i in
    let n = g.row.N in
    let e : i + n - i ≡ n = omega arith in
    ascii_more c.loop-i.invariant n (omega arith) (rw e at (sym c.is_ascii.ensures ∙ c.if-not-is_ascii.false))
