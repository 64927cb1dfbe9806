-- `desk_summary::refusals` is right since each turn puts the next behind those before it. Assumes nothing.
use Rattle.std.proofs.Common.{◌≡◌, refl, arith, rules}
use Rattle.desk_summary.proofs.Laws.{to_none, to_next}
use Rattle.desk_summary.proofs.refusals.Goals as goal

pub loop-k-init : goal.loop-k-init
loop-k-init c = (refl, omega arith, omega arith, to_none _ _ _)

pub loop-k-preserved : goal.loop-k-preserved
loop-k-preserved c =
    let l = c.loop-k in
    let p = c.pair-next.ensures in
    let q = rw c.count.ensures at p.placed in
    (search rules, omega arith, omega (arith, p.short, l.invariant.2), to_next c.args.tally.now l.k l.invariant.3 q)

pub returns : goal.returns
returns c =
    let l = c.loop-k in
    let e : l.k ≡ 23 = omega arith in
    record { placed = rw e at l.invariant.3; short = omega (arith, l.invariant.2) }
