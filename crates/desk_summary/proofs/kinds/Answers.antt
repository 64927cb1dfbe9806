-- `desk_summary::kinds` is right since each turn puts the next behind those before it. Assumes nothing.
use Rattle.std.proofs.Common.{◌≡◌, refl, arith, rules}
use Rattle.desk_summary.proofs.Laws.{kinds_none, kinds_next}
use Rattle.desk_summary.proofs.kinds.Goals as goal

pub loop-n-init : goal.loop-n-init
loop-n-init c = (refl, omega arith, omega arith, kinds_none _ _ _)

pub loop-n-preserved : goal.loop-n-preserved
loop-n-preserved c =
    let l = c.loop-n in
    let p = c.kind-next.ensures in
    (search rules, omega arith, omega (arith, p.short, l.invariant.2), kinds_next c.args.tally.now l.n l.invariant.3 p.placed)

pub returns : goal.returns
returns c =
    let l = c.loop-n in
    let e : l.n ≡ 11 = omega arith in
    record { placed = rw e at l.invariant.3; short = omega (arith, l.invariant.2) }
