-- `packet::read_publish` is right since record and refusal tell the same, and the block ends where what follows it begins. Assumes nothing.
use mathlib.Core.Path.{ap}
use Rattle.reading.specs.Reader.{got}
use Rattle.records.proofs.Laws.{err_is}
use Rattle.packet.proofs.Laws.{refusing_body}
use Rattle.packet.proofs.read_publish.Goals as goal

pub returns-in_err-m : goal.returns-in_err-m
returns-in_err-m c = rw (err_is _ _ c.from_residual.ensures.1) (refusing_body c.in_err-m.ensures)

pub returns : goal.returns
returns c = record { answer = c.in_ok-m.ensures; bounded = ap got c.publish_bounds-place.ensures }
