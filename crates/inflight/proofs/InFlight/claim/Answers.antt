-- `InFlight::claim` is right since the first free place is taken, if there is one. Assumes nothing.
use Rattle.inflight.specs.Rules.{claimed}
use Rattle.inflight.proofs.InFlight.claim.Goals as goal

pub returns-in-AtMostOnce : goal.returns-in-AtMostOnce
unfolding claimed
returns-in-AtMostOnce c = rw c.in-AtMostOnce.is

pub returns-in-AtLeastOnce : goal.returns-in-AtLeastOnce
unfolding claimed
returns-in-AtLeastOnce c = rw c.in-AtLeastOnce.is c.claim_for.ensures

pub returns-in-ExactlyOnce : goal.returns-in-ExactlyOnce
unfolding claimed
returns-in-ExactlyOnce c = rw c.in-ExactlyOnce.is c.claim_for-in-ExactlyOnce.ensures
