-- `InFlight::puback` is right since the identifier is settled as the definition says. Assumes nothing.
use Rattle.inflight.specs.Rules.{call}
use Rattle.inflight.proofs.InFlight.puback.Goals as goal

pub returns : goal.returns
unfolding call
returns c = c.settle.ensures
