-- `packet::read_subscribe` is right since record and refusal tell the same, and the block ends where what follows it begins. Assumes nothing.
use mathlib.Core.Path.{ap}
use Rattle.reading.specs.Reader.{got}
use Rattle.records.proofs.Laws.{err_is}
use Rattle.packet.proofs.Laws.{refusing_body}
use Rattle.packet.proofs.read_subscribe.Goals as goal

pub returns-in_err-m : goal.returns-in_err-m
returns-in_err-m c = λ x. rw (err_is _ _ c.from_residual.ensures.1) (refusing_body (c.in_err-m.ensures x))

pub returns : goal.returns
returns c = λ x. record { answer = c.in_ok-m.ensures x; bounded = ap got c.bounds-place.ensures }
