-- `text_windows::fit_run` is right since what was gathered is below 128 just where every byte so far fits, the loop's invariant. Assumes nothing.
use Rattle.std.proofs.Common.{arith}
use Rattle.text_windows.proofs.Runs.{fitted_run}
use Rattle.text_windows.proofs.fit_run.Goals as goal

pub loop-k-preserved : goal.loop-k-preserved
loop-k-preserved c =
    let a = c.args in
    let l = c.loop-k in
    fitted_run a.s.now a.at l.k l.all c.misfit-all.result (omega arith) l.invariant c.misfit-all.ensures
