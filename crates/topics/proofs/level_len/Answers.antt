-- `topics::level_len` is right since no byte before the one that is found is a separator. Assumes nothing.
use mathlib.Core.Path.{ap, ◌∙◌}
use native.Mathlib.Omega.{arith}
use Rattle.topics.specs.Step.{level_len}
use Rattle.topics.proofs.Laws.{ends_here, len_part, len_whole}
use Rattle.topics.proofs.level_len.Goals as goal

pub returns-then-n-lt12 : goal.returns-then-n-lt12
returns-then-n-lt12 c =
    let n = c.len_near-n.ensures.len ∙ ap level_len c.in-Some.ensures.cases.0 in
    ends_here _ _ (n ∙ len_part 12 _ (omega (arith, n, c.if-n-lt12.true)))

pub returns : goal.returns
returns c =
    let e = c.in-Some.ensures.cases in
    let n = c.len_near-n.ensures.len ∙ ap level_len e.0 in
    let f = c.len_far.ensures.len ∙ ap level_len e.1 in
    ends_here _ _ (omega (arith, f, len_whole 12 c.args.s.now (omega (arith, n, ap level_len e.0))))
