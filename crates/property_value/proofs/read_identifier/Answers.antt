-- `property_value::read_identifier` is right since the number that `read_length` reads is refused where it is 0. Assumes nothing.
use Rattle.records.proofs.Laws.{handed_on}
use Rattle.property_value.proofs.Laws.{identifier_bad, identifier_zero, identifier_fine}
use Rattle.property_value.proofs.read_identifier.Goals as goal

pub returns-in_err-x : goal.returns-in_err-x
returns-in_err-x c = handed_on _ _ _ c.from_residual.ensures.1 (identifier_bad _ _ _ c.in_err-x.ensures)

pub returns-then-x-eq0 : goal.returns-then-x-eq0
returns-then-x-eq0 c = identifier_zero _ _ _ _ c.in_ok-x.ensures c.if-x-eq0.true

pub returns : goal.returns
returns c = identifier_fine _ _ _ _ c.in_ok-x.ensures c.if-x-eq0.false
