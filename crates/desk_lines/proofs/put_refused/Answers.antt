-- `desk_lines::put_refused` is right since its parts are put one behind the other. Assumes nothing.
use Rattle.desk_lines.proofs.Laws.{then}
use Rattle.desk_lines.proofs.put_refused.Goals as goal

pub returns : goal.returns
returns c =
    let h = c.refused_head-a.ensures.placed in
    let v = rw c.values.ensures at c.values-c.ensures.placed in
    then (then (then h c.name-b.ensures.placed) v) c.taken_text.ensures
