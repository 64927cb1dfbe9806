use Rattle.desk_text.proofs.Laws.{Showing}
use Rattle.desk_text.proofs.put_text.Given as goal

abbrev pub invariant-loop-i : goal.invariant-loop-i
invariant-loop-i l = Showing l.initial.out l.at l.text l.s l.from l.out l.i l.next
