use Rattle.write_lengths.proofs.Laws.{Spelt}
use Rattle.write_lengths.proofs.put_groups.Given as goal

abbrev pub invariant-loop-i : goal.invariant-loop-i
invariant-loop-i l = Spelt l.initial.out l.at l.n l.out l.rest l.i
