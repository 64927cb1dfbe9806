-- `ack::read` is right since the identifier is what `read_u16` read, and the rest goes on where it ends. Assumes nothing.
use mathlib.Core.Path.{ap, ◌∙◌}
use Rattle.grammar.specs.Record.{ack}
use Rattle.reading.specs.Place.{on_got}
use Rattle.records.proofs.Laws.{err_is}
use Rattle.ack.proofs.Laws.{ident_bad, ident_got}
use Rattle.ack.proofs.read.Goals as goal

pub returns-in_err-pkid : goal.returns-in_err-pkid
returns-in_err-pkid c = λ x h. rw (err_is _ _ c.from_residual.ensures.1) (ident_bad _ _ _ _ x h _ c.in_err-pkid.ensures)

pub returns : goal.returns
returns c = λ x h. ap (on_got (ack _)) c.read_reason.ensures ∙ ident_got _ _ _ _ x h _ _ c.in_ok-pkid.ensures
