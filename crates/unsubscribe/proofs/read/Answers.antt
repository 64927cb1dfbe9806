-- `unsubscribe::read` is right since an Unsubscribe is an identifier, a block, and topics to the end, each read where the last ends. Assumes nothing.
use mathlib.Core.Path.{◌∙◌}
use Rattle.records.proofs.Laws.{err_is}
use Rattle.positions.proofs.Listed.{listed_ident, listed_block, listed_entries, listed_fine}
use Rattle.unsubscribe.proofs.Laws.{as_listed}
use Rattle.unsubscribe.proofs.read.Goals as goal

pub returns-in_err-pkid : goal.returns-in_err-pkid
returns-in_err-pkid c = λ x. rw (err_is _ _ c.from_residual.ensures.1) (listed_ident _ _ _ _ _ c.in_err-pkid.ensures ∙ as_listed _ _ x)

pub returns-in_err-properties : goal.returns-in_err-properties
returns-in_err-properties c = λ x. rw (err_is _ _ c.from_residual-in_err-properties.ensures.1) (listed_block _ _ _ _ _ c.in_ok-pkid.ensures c.in_err-properties.ensures ∙ as_listed _ _ x)

pub returns-in_err-topics : goal.returns-in_err-topics
returns-in_err-topics c =
    λ x. rw (err_is _ _ c.from_residual-in_err-topics.ensures.1)
    (listed_entries _ _ _ _ _ c.in_ok-pkid.ensures c.in_ok-properties.ensures c.in_err-topics.ensures ∙ as_listed _ _ x)

pub returns : goal.returns
returns c = λ x. listed_fine _ _ _ _ _ c.in_ok-pkid.ensures c.in_ok-properties.ensures c.in_ok-topics.ensures ∙ as_listed _ _ x
