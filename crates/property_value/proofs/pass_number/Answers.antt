-- `property_value::pass_number` is right since the number ends where `read_identifier` says. Assumes nothing.
use Rattle.property_value.proofs.Laws.{of_number, past, not_past}
use Rattle.property_value.proofs.pass_number.Goals as goal

pub returns-in-Err : goal.returns-in-Err
returns-in-Err c = not_past (of_number _) (rw c.in-Err.is at c.read_identifier.ensures)

pub returns-in-Ok : goal.returns-in-Ok
returns-in-Ok c = past (of_number _) (rw c.in-Ok.is at c.read_identifier.ensures)
