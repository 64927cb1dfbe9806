use Rattle.grammar.specs.Tables.{reasons_of}
use Rattle.reading.specs.Read.{reason_of}
use Rattle.positions.proofs.Runs.{Going}
use Rattle.records.specs.AsNumbers.{told_reply_kind}
use Rattle.reply.proofs.read_reasons.Given as goal

abbrev pub invariant-loop-i : goal.invariant-loop-i
invariant-loop-i l = Going (reason_of (reasons_of (told_reply_kind l.kind))) l.s l.at l.i
