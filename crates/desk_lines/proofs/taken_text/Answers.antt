-- `desk_lines::taken_text` is right since its parts are put one behind the other. Assumes nothing.
use Rattle.desk_lines.proofs.Laws.{then}
use Rattle.desk_lines.proofs.taken_text.Goals as goal

pub returns : goal.returns
returns c = then c.number-a.ensures.placed c.word.ensures
