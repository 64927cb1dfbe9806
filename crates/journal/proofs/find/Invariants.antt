use Rattle.journal.specs.JournalAnswer.{told_block}
use Rattle.journal.proofs.Finding.{Walked}
use Rattle.journal.proofs.find.Given as goal

abbrev pub invariant-loop-b : goal.invariant-loop-b
invariant-loop-b l = Walked l.blocks (told_block l.best) l.b-iterator.iter.rest.now
