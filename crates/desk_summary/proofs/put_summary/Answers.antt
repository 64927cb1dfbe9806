-- `desk_summary::put_summary` is right since its parts are put one behind the other. Assumes nothing.
use Rattle.desk_lines.proofs.Laws.{then}
use Rattle.desk_summary.proofs.put_summary.Goals as goal

pub returns : goal.returns
returns c = then (then (then (then c.put_word-a.ensures c.kinds-b.ensures.placed) c.all-c.ensures.placed) c.refusals-d.ensures.placed) c.end.ensures
