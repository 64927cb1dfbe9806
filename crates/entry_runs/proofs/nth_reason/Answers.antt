-- `entry_runs::nth_reason` is right since each turn passes one reason and keeps the n-th of those passed. Assumes nothing.
use mathlib.Core.Path.{ap, ◌≡◌, sym, ◌∙◌}
use Prim.Native.Nat.{◌+◌, ◌-◌}
use native.Mathlib.Omega.{arith}
use Rattle.grammar.specs.Tables.{reasons_of}
use Rattle.positions.proofs.Less.{reason_less}
use Rattle.positions.proofs.Trails.{trails_reason}
use Rattle.records.specs.AsNumbers.{told_reply_kind}
use Rattle.reply.proofs.Laws.{reason_here, reason_not}
use Rattle.positions.proofs.Nth.{counting_bad, counting_next, counting_end}
use Rattle.records.specs.Answered.{told_reason_item}
use Rattle.entry_runs.proofs.Laws.{kept_reason}
use Rattle.entry_runs.proofs.nth_reason.Goals as goal

pub loop-i-preserved : goal.loop-i-preserved
loop-i-preserved c =
    let a = c.args in
    let l = c.loop-i in
    let rs = reasons_of (told_reply_kind a.kind) in
    let m : l.i + 1 - a.at ≡ l.i - a.at + 1 = omega (arith, l.invariant.room) in
    rw m (counting_next a.s.now (reason_less rs _) l.invariant (trails_reason rs) c.loop-i-test.true _ (reason_here rs a.s.now l.i c.loop-i-test.true (sym c.is_reply_reason.ensures ∙ c.if-not-is_reply_reason.false)) (ap told_reason_item c.choose-item.ensures ∙ kept_reason l.item _ _ a.n))

pub returns-then-not-is_reply_reason : goal.returns-then-not-is_reply_reason
returns-then-not-is_reply_reason c =
    let a = c.args in
    let l = c.loop-i in
    counting_bad a.s.now (reason_less (reasons_of (told_reply_kind a.kind)) _) l.invariant c.loop-i-test.true (reason_not (reasons_of (told_reply_kind a.kind)) a.s.now l.i c.loop-i-test.true (sym c.is_reply_reason.ensures ∙ c.if-not-is_reply_reason.true))

pub returns : goal.returns
returns c =
    let a = c.args in
    counting_end a.s.now (reason_less (reasons_of (told_reply_kind a.kind)) _) c.loop-i.invariant c.loop-i-test.false
