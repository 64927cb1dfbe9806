use mathlib.Core.List.{map}
use lib.ListN.{drop}
use Rattle.grammar.specs.Tables.{reasons_of}
use Rattle.writing.specs.Order.{code}
use Rattle.records.specs.AsNumbers.{told_reply_kind}
use Rattle.write_tests.proofs.Laws.{Deciding}
use Rattle.reply_write.proofs.test_reasons.Given as goal

abbrev pub invariant-loop-reason : goal.invariant-loop-reason
invariant-loop-reason l = Deciding (map (code (reasons_of (told_reply_kind l.kind))) l.reasons) (map (code (reasons_of (told_reply_kind l.kind))) (drop l.reason-index l.reasons))
