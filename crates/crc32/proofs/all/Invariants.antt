use Prim.Native.Nat.{◌*◌}
use Rattle.crc32.specs.Crc.{bytes_in, all_ones}
use Rattle.crc32.proofs.Laws.{Passed}
use Rattle.crc32.proofs.all.Given as goal

abbrev pub invariant-loop-e : goal.invariant-loop-e
invariant-loop-e l = Passed l.s (bytes_in all_ones l.s) l.r (8 * l.e-index)
