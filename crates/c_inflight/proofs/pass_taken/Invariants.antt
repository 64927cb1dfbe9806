use Prim.Native.Nat.{◌-◌}
use lib.ListN.{length}
use Rattle.inflight.specs.TableAnswer.{Ahead}
use Rattle.c_inflight.proofs.pass_taken.Given as goal

abbrev pub invariant-loop-i : goal.invariant-loop-i
invariant-loop-i l = Ahead l.codes l.i

abbrev pub decreases-loop-i : goal.decreases-loop-i
decreases-loop-i l = length l.codes - l.i
