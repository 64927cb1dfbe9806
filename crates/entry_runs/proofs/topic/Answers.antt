-- `entry_runs::topic` is right since a place that lies within is the end of the slice that stops there. Assumes nothing.
use mathlib.Core.Path.{sym, ◌∙◌}
use Prim.Native.Nat.{◌+◌}
use borrow.Author.Tests.{leb-true, leb-false}
use lib.ListN.{length}
use Rattle.records.specs.AsNumbers.{told_span}
use Rattle.entry_runs.proofs.Laws.{topic_outside, topic_within}
use Rattle.entry_runs.proofs.topic.Goals as goal

pub returns-then-within : goal.returns-then-within
returns-then-within c =
    let a = c.args in
    let h = leb-true (a.p.start + a.p.len) (length a.s.now) (sym c.within.ensures ∙ c.if-within.true) in
    c.nth_topic.ensures ∙ topic_within a.s.now (told_span a.p) a.n h

pub returns : goal.returns
returns c =
    let a = c.args in
    let h = leb-false (a.p.start + a.p.len) (length a.s.now) (sym c.within.ensures ∙ c.if-within.false) in
    topic_outside a.s.now (told_span a.p) a.n h
