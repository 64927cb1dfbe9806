use Rattle.inflight.specs.TableAnswer.{waits_of}
use Rattle.journal.proofs.Stores.{Put}
use Rattle.c_journal.proofs.put_all.Given as goal

abbrev pub invariant-loop-i : goal.invariant-loop-i
invariant-loop-i l = Put l.initial.out (waits_of l.fn.table) 0 l.out l.i
