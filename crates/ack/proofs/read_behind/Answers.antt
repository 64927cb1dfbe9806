-- `ack::read_behind` is right since what follows the reason is what `read_last_block` reads. Assumes nothing.
use Rattle.records.proofs.Laws.{handed_on}
use Rattle.ack.proofs.Laws.{behind_bad, behind_got}
use Rattle.ack.proofs.read_behind.Goals as goal

pub returns-in_err-properties : goal.returns-in_err-properties
returns-in_err-properties c = handed_on _ _ _ c.from_residual.ensures.1 (behind_bad _ _ _ _ c.in_err-properties.ensures)

pub returns : goal.returns
returns c = behind_got _ _ _ _ c.in_ok-properties.ensures
