-- `publish::read_pkid` is right since at QoS 0 nothing stands there, and at 1 and 2 the same. Assumes nothing.
use Rattle.reading.specs.Read.{ident_of}
use Rattle.publish.proofs.Laws.{ident_none}
use Rattle.publish.proofs.read_pkid.Goals as goal

pub returns-in-AtMostOnce : goal.returns-in-AtMostOnce
returns-in-AtMostOnce c = rw c.in-AtMostOnce.is (ident_none _ _ c.requires)

pub returns-in-ExactlyOnce : goal.returns-in-ExactlyOnce
unfolding ident_of
returns-in-ExactlyOnce c = rw c.in-ExactlyOnce.is c.read_some_pkid-in-ExactlyOnce.ensures
