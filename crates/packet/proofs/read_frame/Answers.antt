-- `packet::read_frame` is right since all of the frame is taken, whatever its body says. Assumes nothing.
use Rattle.reading.specs.Read.{whole_answer}
use Rattle.packet.proofs.Laws.{telling, telling_refused}
use Rattle.packet.proofs.read_frame.Goals as goal

pub returns-in-Ok : goal.returns-in-Ok
unfolding whole_answer
returns-in-Ok c = telling (rw c.in-Ok.is at c.read_body.ensures)

pub returns-in-Err : goal.returns-in-Err
unfolding whole_answer
returns-in-Err c = telling_refused (rw c.in-Err.is at c.read_body.ensures)
