use Rattle.std.proofs.Common.{◌-◌, length}
use Rattle.text_windows.specs.Window.{AsciiTo}
use Rattle.text_windows.proofs.pass_ascii.Given as goal

abbrev pub invariant-loop-i : goal.invariant-loop-i
invariant-loop-i g l = AsciiTo l.s l.i

abbrev pub decreases-loop-i : goal.decreases-loop-i
decreases-loop-i g l = length l.s - l.i
