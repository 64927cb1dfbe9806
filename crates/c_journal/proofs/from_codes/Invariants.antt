use Rattle.c_journal.proofs.Bytes.{Taken}
use Rattle.c_journal.proofs.from_codes.Given as goal

abbrev pub invariant-loop-i : goal.invariant-loop-i
invariant-loop-i l = Taken l.codes l.table l.i
