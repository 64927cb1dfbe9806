-- `filter_runs::read_filters` is right since each turn passes one filter, and what stands at `i` decides. Assumes nothing.
use mathlib.Core.Path.{sym, ◌∙◌}
use Prim.Native.Nat.{◌-◌}
use native.Mathlib.Omega.{arith}
use Rattle.filters.proofs.Laws.{filter_ahead, stays, goes}
use Rattle.positions.proofs.Less.{filter_less}
use Rattle.positions.proofs.Trails.{trails_filter}
use Rattle.positions.proofs.Runs.{run_empty, going_bad, going_next, going_end}
use Rattle.reading.specs.Place.{as_places}
use Rattle.filter_runs.proofs.read_filters.Goals as goal

pub returns-then-s-at : goal.returns-then-s-at
returns-then-s-at c = run_empty _ c.args.s.now c.args.at (omega arith)

pub returns-then-next-i : goal.returns-then-next-i
returns-then-next-i c =
    let (k, e) = stays _ c.loop-i-test.true c.pass_filter-next.ensures c.if-next-i.true in
    sym (c.broken.ensures.says e) ∙ going_bad _ (filter_less _) c.loop-i.invariant c.loop-i-test.true e

pub loop-i-smaller : goal.loop-i-smaller
loop-i-smaller c =
    let (v, e) = goes _ c.loop-i-test.true c.pass_filter-next.ensures c.if-next-i.false in
    let h = filter_ahead c.args.s.now c.loop-i-test.true e in
    omega (arith, h)

pub loop-i-preserved : goal.loop-i-preserved
loop-i-preserved c =
    let (v, e) = goes _ c.loop-i-test.true c.pass_filter-next.ensures c.if-next-i.false in
    going_next _ (filter_less _) c.loop-i.invariant (trails_filter as_places _) c.loop-i-test.true e

pub returns : goal.returns
returns c = going_end _ (filter_less _) c.loop-i.invariant (omega arith) (omega arith)
