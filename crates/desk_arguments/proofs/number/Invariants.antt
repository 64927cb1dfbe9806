use mathlib.Core.Path.{◌≡◌}
use mathlib.Core.Option.{some}
use lib.ListN.{drop}
use Rattle.desk_arguments.specs.Words.{grown_by, number_of}
use Rattle.desk_arguments.proofs.number.Given as goal

abbrev pub invariant-loop-b : goal.invariant-loop-b
invariant-loop-b l = number_of l.s ≡ grown_by (some l.n) (drop l.b-index l.s)
