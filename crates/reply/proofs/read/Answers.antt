-- `reply::read` is right since a reply is an identifier, a block, and reasons to the end, each read where the last ends. Assumes nothing.
use mathlib.Core.Path.{◌∙◌}
use Rattle.records.proofs.Laws.{err_is}
use Rattle.positions.proofs.Listed.{listed_ident, listed_block, listed_entries, listed_fine}
use Rattle.reply.proofs.Laws.{as_listed}
use Rattle.reply.proofs.read.Goals as goal

pub returns-in_err-pkid : goal.returns-in_err-pkid
returns-in_err-pkid c = λ x h. rw (err_is _ _ c.from_residual.ensures.1) (listed_ident _ _ _ _ _ c.in_err-pkid.ensures ∙ as_listed _ _ _ _ x h)

pub returns-in_err-properties : goal.returns-in_err-properties
returns-in_err-properties c = λ x h. rw (err_is _ _ c.from_residual-in_err-properties.ensures.1) (listed_block _ _ _ _ _ c.in_ok-pkid.ensures c.in_err-properties.ensures ∙ as_listed _ _ _ _ x h)

pub returns-in_err-reasons : goal.returns-in_err-reasons
returns-in_err-reasons c =
    λ x h. rw (err_is _ _ c.from_residual-in_err-reasons.ensures.1)
    (listed_entries _ _ _ _ _ c.in_ok-pkid.ensures c.in_ok-properties.ensures c.in_err-reasons.ensures ∙ as_listed _ _ _ _ x h)

pub returns : goal.returns
returns c = λ x h. listed_fine _ _ _ _ _ c.in_ok-pkid.ensures c.in_ok-properties.ensures c.in_ok-reasons.ensures ∙ as_listed _ _ _ _ x h
