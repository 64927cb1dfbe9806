-- `topics::matches` is right since it asks what the definition asks, in that order. Assumes nothing.
use mathlib.Core.Path.{sym, ◌∙◌}
use Rattle.topics.specs.Match.{matches_of}
use Rattle.topics.proofs.Laws.{by_lone}
use Rattle.topics.proofs.matches.Goals as goal

pub returns-then-is_barred : goal.returns-then-is_barred
unfolding matches_of
returns-then-is_barred c = rw (sym c.is_barred.ensures ∙ c.if-is_barred.true)

pub returns-then-is_lone : goal.returns-then-is_lone
unfolding matches_of
returns-then-is_lone c =
    rw (sym c.is_barred.ensures ∙ c.if-is_barred.false)
    (by_lone _ _ (sym c.is_lone.ensures ∙ c.if-is_lone.true))

pub returns : goal.returns
unfolding matches_of
returns c = rw (sym c.is_barred.ensures ∙ c.if-is_barred.false) c.rest_matches.ensures
