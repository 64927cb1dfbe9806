-- `topics::wild_in` is right since each byte passed is asked. Assumes nothing.
use Rattle.std.proofs.Common.{◌≡◌, take}
use Rattle.topics.specs.Levels.{has_wild}
use Rattle.topics.proofs.wild_in.Given as goal

abbrev pub invariant-loop-b : goal.invariant-loop-b
invariant-loop-b l = l.any ≡ has_wild (take l.b-index l.run)
