-- `write_runs::run::adds_up` is right since the lengths add up exactly if those from the i-th on add up to what is left. Assumes nothing.
use mathlib.Core.Path.{◌≡◌}
use lib.Dec.{eqb}
use lib.ListN.{length, drop}
use Rattle.writing.specs.Lists.{sum}
use Rattle.write_runs.proofs.run.adds_up.Given as goal

abbrev pub invariant-loop-n : goal.invariant-loop-n
invariant-loop-n l = eqb (sum l.lengths) (length l.bytes) ≡ eqb (sum (drop l.n-index l.lengths)) l.left
