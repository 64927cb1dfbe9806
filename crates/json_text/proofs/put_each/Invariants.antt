use Rattle.json_text.proofs.Laws.{Putting}
use Rattle.json_text.proofs.put_each.Given as goal

abbrev pub invariant-loop-b : goal.invariant-loop-b
invariant-loop-b g l = Putting g.F.Form.form l.initial.out l.at l.s l.out l.b-index l.next
