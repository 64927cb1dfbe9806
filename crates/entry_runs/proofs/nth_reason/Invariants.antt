use Prim.Native.Nat.{◌-◌}
use Rattle.grammar.specs.Tables.{reasons_of}
use Rattle.reading.specs.Read.{reason_of}
use Rattle.records.specs.AsNumbers.{told_reply_kind}
use Rattle.records.specs.Answered.{told_reason_item}
use Rattle.positions.proofs.Nth.{Counting}
use Rattle.entry_runs.proofs.nth_reason.Given as goal

abbrev pub invariant-loop-i : goal.invariant-loop-i
invariant-loop-i l = Counting (reason_of (reasons_of (told_reply_kind l.kind))) l.s l.at l.n (told_reason_item l.item) (l.i - l.at) l.i
