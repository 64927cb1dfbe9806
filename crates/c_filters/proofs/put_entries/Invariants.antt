use Rattle.c_filters.proofs.Laws.{Put}
use Rattle.c_filters.proofs.put_entries.Given as goal

abbrev pub invariant-loop-i : goal.invariant-loop-i
invariant-loop-i l = Put l.s l.end l.n l.at l.initial.table l.table l.i l.j
