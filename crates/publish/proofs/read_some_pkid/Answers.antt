-- `publish::read_some_pkid` is right since the identifier is what `read_u16` read, and 0 is refused. Assumes nothing.
use Rattle.records.proofs.Laws.{handed_on}
use Rattle.publish.proofs.Laws.{ident_bad, ident_zero, ident_some}
use Rattle.publish.proofs.read_some_pkid.Goals as goal

pub returns-in_err-pkid : goal.returns-in_err-pkid
returns-in_err-pkid c = handed_on _ _ _ c.from_residual.ensures.1 (ident_bad _ _ _ c.in_err-pkid.ensures)

pub returns-then-pkid-eq0 : goal.returns-then-pkid-eq0
returns-then-pkid-eq0 c = ident_zero _ _ _ _ c.in_ok-pkid.ensures c.if-pkid-eq0.true

pub returns : goal.returns
returns c = ident_some _ _ _ _ c.in_ok-pkid.ensures c.if-pkid-eq0.false
