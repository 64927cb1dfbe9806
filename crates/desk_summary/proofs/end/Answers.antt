-- `desk_summary::end` is right since its parts are put one behind the other. Assumes nothing.
use Rattle.desk_lines.proofs.Laws.{then}
use Rattle.desk_summary.proofs.end.Goals as goal

pub returns : goal.returns
returns c = then c.number-a.ensures.placed c.put_word.ensures
