use Rattle.std.proofs.Common.{◌+◌, ltb}
use Rattle.text_windows.specs.Window.{Fitted}
use Rattle.text_windows.proofs.fit_run.Given as goal

abbrev pub invariant-loop-k : goal.invariant-loop-k
invariant-loop-k l = Fitted l.s (l.at + 3) (l.at + 3 + l.k) (ltb l.all 128)
