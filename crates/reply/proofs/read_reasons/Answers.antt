-- `reply::read_reasons` is right since each turn passes one reason, and what stands at `i` decides. Assumes nothing.
use mathlib.Core.Path.{sym, ◌∙◌}
use Prim.Native.Nat.{◌-◌}
use native.Mathlib.Omega.{arith}
use Rattle.grammar.specs.Tables.{reasons_of}
use Rattle.positions.proofs.Less.{reason_less}
use Rattle.positions.proofs.Trails.{trails_reason}
use Rattle.positions.proofs.Runs.{run_empty, going_bad, going_next, going_end}
use Rattle.records.specs.AsNumbers.{told_reply_kind}
use Rattle.reply.proofs.Laws.{reason_here, reason_not}
use Rattle.reply.proofs.read_reasons.Goals as goal

pub returns-then-s-at : goal.returns-then-s-at
returns-then-s-at c = run_empty _ c.args.s.now c.args.at (omega arith)

pub loop-i-preserved : goal.loop-i-preserved
loop-i-preserved c =
    let a = c.args in
    let rs = reasons_of (told_reply_kind a.kind) in
    going_next _ (reason_less rs _) c.loop-i.invariant (trails_reason rs) c.loop-i-test.true (reason_here rs a.s.now c.loop-i.i c.loop-i-test.true (sym c.is_reply_reason.ensures ∙ c.if-not-is_reply_reason.false))

pub returns-then-not-is_reply_reason : goal.returns-then-not-is_reply_reason
returns-then-not-is_reply_reason c =
    let a = c.args in
    let rs = reasons_of (told_reply_kind a.kind) in
    going_bad _ (reason_less rs _) c.loop-i.invariant c.loop-i-test.true (reason_not rs a.s.now c.loop-i.i c.loop-i-test.true (sym c.is_reply_reason.ensures ∙ c.if-not-is_reply_reason.true))

pub returns : goal.returns
returns c = going_end _ (reason_less (reasons_of (told_reply_kind c.args.kind)) _) c.loop-i.invariant (omega arith) (omega arith)
