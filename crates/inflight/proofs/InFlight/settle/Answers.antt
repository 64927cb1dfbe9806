-- `InFlight::settle` is right since the test is the definition's. Assumes nothing.
use mathlib.Core.Path.{◌≡◌, sym, ap, ◌∙◌}
use borrow.Author.Rules.{rules}
use Rattle.inflight.specs.TableAnswer.{code_of}
use Rattle.inflight.proofs.TableAnswer.{code_same}
use Rattle.inflight.proofs.Laws.{settle_due, settle_not}
use Rattle.inflight.proofs.InFlight.settle.Goals as goal

pub returns-then-ne : goal.returns-then-ne
returns-then-ne c =
    settle_not _ _ _ (λ e. search (rules, code_same (c.waits_for.ensures ∙ e)))

pub returns : goal.returns
returns c =
    let q : c.waits_for.result ≡ c.args.due = search rules in
    settle_due _ _ _ _ (sym c.waits_for.ensures ∙ ap code_of q) c.put.ensures c.became.ensures
