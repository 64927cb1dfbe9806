use Rattle.std.proofs.Common.{◌≡◌, ◌-◌, ◌≤◌, length, drop}
use Rattle.utf8.specs.Text.{all_ascii}
use Rattle.utf8.proofs.is_all_ascii.Given as goal

abbrev pub invariant-loop-run : goal.invariant-loop-run
invariant-loop-run l = (length l.rest ≤ length l.s) × (l.rest ≡ drop (length l.s - length l.rest) l.s) × (all_ascii l.s ≡ all_ascii l.rest)

abbrev pub decreases-loop-run : goal.decreases-loop-run
decreases-loop-run l = length l.rest
