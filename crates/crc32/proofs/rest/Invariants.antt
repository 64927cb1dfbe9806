use Rattle.crc32.specs.Crc.{bytes_in}
use Rattle.crc32.proofs.Laws.{Passed}
use Rattle.crc32.proofs.rest.Given as goal

abbrev pub invariant-loop-b : goal.invariant-loop-b
invariant-loop-b l = Passed l.s (bytes_in l.r l.s) l.x l.b-index
