use Rattle.std.proofs.Common.{◌-◌, ◌≤◌, length}
use Rattle.text_windows.specs.Window.{Fit}
use Rattle.text_windows.proofs.by_windows.Given as goal

abbrev pub invariant-loop-i : goal.invariant-loop-i
invariant-loop-i l = (3 ≤ l.i) × (l.i ≤ length l.s) × Fit l.s 0 l.i

abbrev pub decreases-loop-i : goal.decreases-loop-i
decreases-loop-i l = length l.s - l.i
