-- `topics::wild_runs` is right since what is not asked in the last run was asked before. Assumes nothing.
use mathlib.Core.Path.{sym, ap, ◌∙◌}
use Prim.Native.Nat.{◌-◌}
use native.Mathlib.Omega.{arith}
use lib.ListN.{length}
use Rattle.topics.specs.Levels.{has_wild}
use Rattle.topics.proofs.Laws.{to_end, left_on, wild_front, wild_past, wild_more}
use Rattle.topics.proofs.wild_runs.Goals as goal

pub returns-then-wild_in : goal.returns-then-wild_in
returns-then-wild_in g c =
    sym (wild_front g.row.N _ (sym (c.if-wild_in.ensures ∙ ap has_wild c.in-Some.ensures.cases.0))) ∙ c.loop-run.invariant.1

pub loop-run-preserved : goal.loop-run-preserved
loop-run-preserved g c =
    let e = c.in-Some.ensures.cases in
    rw e.1 (
      left_on _ _ g.row.N (omega (arith, e.2)) c.loop-run.invariant.0,
      wild_past g.row.N _ (sym (c.if-wild_in.ensures ∙ ap has_wild e.0)) ∙ c.loop-run.invariant.1,
    )

pub returns : goal.returns
returns g c =
    let s = c.args.s.now in
    let i = c.loop-run.invariant in
    (rw (to_end s (length s - g.row.N)) at c.wild_in-2.ensures)
    ∙ wild_more (length s - g.row.N) (length s - length c.loop-run.rest.now) s (omega (arith, c.in_default.ensures.cases)) (rw (sym i.0.left) i.1)
