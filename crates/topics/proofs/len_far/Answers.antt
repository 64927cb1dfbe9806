-- `topics::len_far` is right since no byte passed is a separator. Assumes nothing.
use mathlib.Core.Path.{◌≡◌, sym, ap, ◌∙◌}
use Prim.Native.Nat.{◌+◌}
use native.Mathlib.Omega.{arith}
use lib.ListN.{length}
use Rattle.topics.specs.Step.{level_len}
use Rattle.topics.proofs.Laws.{len_none, len_run}
use Rattle.topics.proofs.len_far.Goals as goal

pub loop-run-preserved : goal.loop-run-preserved
loop-run-preserved c =
    let e = c.in-Some.ensures.cases in
    let r = c.loop-run.rest.now in
    let q = len_run 16 r (ap level_len (sym e.0) ∙ len_none c.in-Some.run'.now (sym c.if-contains.ensures.value) ∙ ap length e.0) (omega (arith, e.2)) in
    let n : level_len r ≡ 16 + level_len c.in-Some.more.now = q ∙ ap (λ x. 16 + level_len x) (sym e.1) in
    (omega (arith, e.2, c.loop-run.invariant.0), omega (arith, e.2, c.loop-run.invariant.0, c.loop-run.invariant.1, n))
