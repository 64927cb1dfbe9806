-- `walker::begin_at` is right since the block of a record that was read lies within the stream. Assumes nothing.
use Rattle.walker.proofs.Lies.{begins_packet}
use Rattle.walker.proofs.begin_at.Goals as goal

pub returns-in-Ok : goal.returns-in-Ok
returns-in-Ok c = begins_packet _ c.in-Ok.p c.in-Ok.field-0-2 (rw c.in-Ok.is at c.read.ensures.answer.answer) c.of_packet.ensures
