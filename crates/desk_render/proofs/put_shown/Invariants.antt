use Rattle.desk_render.proofs.Laws.{Showing}
use Rattle.desk_render.proofs.put_shown.Given as goal

abbrev pub invariant-loop-i : goal.invariant-loop-i
invariant-loop-i l = Showing l.initial.out l.at l.s l.out l.i l.next
