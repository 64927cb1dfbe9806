-- `desk_summary::pair` is right since its parts are put one behind the other, or none is. Assumes nothing.
use Rattle.std.proofs.Common.{arith, ne_eqb}
use Rattle.desk_lines.proofs.Laws.{then}
use Rattle.desk_summary.proofs.pair.Goals as goal

pub returns : goal.returns
returns c =
    let m = c.number-a.ensures in
    let n = c.number.ensures in
    record { placed = rw (ne_eqb c.args.n 0 c.if-n-eq0.false) (then m.placed n.placed); short = omega (arith, m.short, n.short) }
