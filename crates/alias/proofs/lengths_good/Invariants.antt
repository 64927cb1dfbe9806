use mathlib.Core.Path.{◌≡◌}
use mathlib.Core.Bool.{true}
use Rattle.alias.specs.Table.{lengths_good}
use Rattle.alias.proofs.lengths_good.Given as goal

abbrev pub invariant-loop-n : goal.invariant-loop-n
invariant-loop-n l = lengths_good l.n l.table ≡ true
