-- `write_sizes::ids_size` is right since after each turn the identifiers before the i-th are counted. Assumes nothing.
use Rattle.write_sizes.proofs.Laws.{Counted}
use Rattle.write_sizes.proofs.ids_size.Given as goal

abbrev pub invariant-loop-id : goal.invariant-loop-id
invariant-loop-id l = Counted l.ids l.n l.id-index
