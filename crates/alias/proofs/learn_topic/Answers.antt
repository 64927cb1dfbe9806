-- `alias::learn_topic` is right since what is refused leaves the table alone, and anything else is set. Assumes nothing.
use mathlib.Core.Path.{◌∙◌}
use Rattle.alias.proofs.Laws.{handed_on, after_bad, after_got}
use Rattle.alias.proofs.learn_topic.Goals as goal

pub returns-in_err-judge : goal.returns-in_err-judge
returns-in_err-judge c =
    let e = c.in_err-judge.ensures in
    record { told = handed_on _ _ _ c.from_residual.ensures.1 e; after = after_bad _ _ _ _ e }

pub returns : goal.returns
returns c =
    let e = c.in_ok-judge.ensures in
    record { told = e; after = c.set_by.ensures ∙ after_got _ _ _ e }
