use Prim.Native.Nat.{◌*◌, ◌≤◌}
use lib.ListN.{drop}
use Rattle.grammar.specs.Tables.{number}
use Rattle.writing.specs.Handed.{several}
use Rattle.write_properties.specs.Fitting.{fit_row}
use Rattle.write_properties.proofs.Laws.{Putting}
use Rattle.write_lists.proofs.put_ids.Given as goal

abbrev pub invariant-loop-id : goal.invariant-loop-id
invariant-loop-id l = Putting l.initial.out l.at (fit_row (11, number) (several l.ids)) l.out l.n (fit_row (11, number) (several (drop l.id-index l.ids))) × (l.n ≤ 5 * l.id-index)
