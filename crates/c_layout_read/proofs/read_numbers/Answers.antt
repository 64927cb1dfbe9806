-- `c_layout_read::read_numbers` is right since each answer has its own arm. Assumes nothing.
use Rattle.c_layout_read.specs.Record.{encoded}
use Rattle.c_layout_read.proofs.read_numbers.Goals as goal

pub returns-in-Ok : goal.returns-in-Ok
unfolding encoded
returns-in-Ok c = rw c.in-Ok.is c.packet_numbers.ensures
