-- `filter_runs::nth` is right since each turn passes one filter and keeps the n-th of those passed. Assumes nothing.
use Prim.Native.Nat.{◌-◌}
use native.Mathlib.Omega.{arith}
use Rattle.filters.proofs.Laws.{filter_ahead}
use Rattle.reading.specs.Place.{as_places}
use Rattle.positions.proofs.Less.{filter_less}
use Rattle.positions.proofs.Trails.{trails_filter}
use Rattle.positions.proofs.Nth.{counting_bad, counting_next, counting_end}
use Rattle.filter_runs.proofs.nth.Goals as goal

pub returns-in_default : goal.returns-in_default
returns-in_default c = counting_bad _ (filter_less _) c.loop-i.invariant c.loop-i-test.true (rw c.in_default.is at c.read_filter.ensures)

pub loop-i-smaller : goal.loop-i-smaller
loop-i-smaller c =
    let h = filter_ahead c.args.s.now c.loop-i-test.true (rw c.in-Ok.is at c.read_filter.ensures) in
    omega (arith, h)

pub loop-i-preserved : goal.loop-i-preserved
loop-i-preserved c = counting_next _ (filter_less _) c.loop-i.invariant (trails_filter as_places _) c.loop-i-test.true _ (rw c.in-Ok.is at c.read_filter.ensures) c.choose-item.ensures

pub returns : goal.returns
returns c = counting_end _ (filter_less _) c.loop-i.invariant c.loop-i-test.false
