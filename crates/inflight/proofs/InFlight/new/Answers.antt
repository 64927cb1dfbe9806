-- `InFlight::new` is right since every place is free: the array computes. Assumes nothing.
use mathlib.Core.Path.{refl}
use Rattle.inflight.specs.TableAnswer.{waits_of}
use Rattle.inflight.proofs.InFlight.new.Goals as goal

pub returns : goal.returns
unfolding waits_of
returns c = refl
