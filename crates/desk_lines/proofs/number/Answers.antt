-- `desk_lines::number` is right since the number is put behind the words. Assumes nothing.
use native.Mathlib.Omega.{arith}
use Rattle.desk_lines.proofs.Laws.{then}
use Rattle.desk_lines.proofs.number.Goals as goal

pub returns : goal.returns
returns c =
    let w = c.word-next.ensures in
    let d = c.decimal.ensures in
    record { placed = then w d.placed; short = omega (arith, d.short, w.behind) }
