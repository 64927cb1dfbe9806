-- `desk_lines::put_too_long` is right since its parts are put one behind the other. Assumes nothing.
use Rattle.desk_lines.proofs.Laws.{then}
use Rattle.desk_lines.proofs.put_too_long.Goals as goal

pub returns : goal.returns
returns c = then (then c.too_long_at-a.ensures.placed c.number-b.ensures.placed) c.word.ensures
