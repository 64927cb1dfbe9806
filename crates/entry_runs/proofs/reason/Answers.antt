-- `entry_runs::reason` is right since a place that lies within is the end of the slice that stops there. Assumes nothing.
use mathlib.Core.Path.{sym, ◌∙◌}
use Prim.Native.Nat.{◌+◌}
use borrow.Author.Tests.{leb-true, leb-false}
use lib.ListN.{length}
use Rattle.grammar.specs.Tables.{reasons_of}
use Rattle.records.specs.AsNumbers.{told_span, told_reply_kind}
use Rattle.entry_runs.proofs.Laws.{reason_outside, reason_within}
use Rattle.entry_runs.proofs.reason.Goals as goal

pub returns-then-within : goal.returns-then-within
returns-then-within c =
    let a = c.args in
    let h = leb-true (a.p.start + a.p.len) (length a.s.now) (sym c.within.ensures ∙ c.if-within.true) in
    c.nth_reason.ensures ∙ reason_within a.s.now (told_span a.p) a.n (reasons_of (told_reply_kind a.kind)) h

pub returns : goal.returns
returns c =
    let a = c.args in
    let h = leb-false (a.p.start + a.p.len) (length a.s.now) (sym c.within.ensures ∙ c.if-within.false) in
    reason_outside a.s.now (told_span a.p) a.n (reasons_of (told_reply_kind a.kind)) h
