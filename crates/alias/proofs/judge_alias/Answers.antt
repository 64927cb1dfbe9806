-- `alias::judge_alias` is right since it asks what the definition asks, in that order. Assumes nothing.
use mathlib.Core.Path.{sym}
use native.Mathlib.Omega.{arith}
use borrow.Author.Tests.{eqb-true, eqb-false}
use Rattle.alias.proofs.Laws.{permit_zero, permit_above, permit_unknown, permit_known, permit_long, permit_new}
use Rattle.alias.proofs.judge_alias.Goals as goal
use Rattle.alias.proofs.judge_alias.Goals.{then-alias-eq0-via-then-alias-eq0, then-alias-eq0-via-else-alias-eq0+then-alias-gt16}

pub returns-then-alias-eq0 : goal.returns-then-alias-eq0
returns-then-alias-eq0 c =
    let a = c.args in
    elim c.then-alias-eq0.branch [
      | then-alias-eq0-via-then-alias-eq0 w ↦ permit_zero a.table.now a.topic.now c.requires a.alias w.if-alias-eq0.true
      | then-alias-eq0-via-else-alias-eq0+then-alias-gt16 w ↦ permit_above a.table.now a.topic.now c.requires a.alias w.if-alias-gt16.true
    ]

pub returns-then-table-at-eq0 : goal.returns-then-table-at-eq0
returns-then-table-at-eq0 c =
    let a = c.args in
    permit_unknown a.table.now a.topic.now c.requires a.alias (omega arith) (omega arith) (eqb-true _ 0 (sym c.if-is_empty.ensures)) c.if-table-at-eq0.true

pub returns-then-is_empty : goal.returns-then-is_empty
returns-then-is_empty c =
    let a = c.args in
    permit_known a.table.now a.topic.now c.requires a.alias (omega arith) (omega arith) (eqb-true _ 0 (sym c.if-is_empty.ensures)) c.if-table-at-eq0.false

pub returns-then-topic-gt128 : goal.returns-then-topic-gt128
returns-then-topic-gt128 c =
    let a = c.args in
    permit_long a.table.now a.topic.now c.requires a.alias (omega arith) (omega arith) (eqb-false _ 0 (sym c.if-is_empty.ensures)) c.if-topic-gt128.true

pub returns : goal.returns
returns c =
    let a = c.args in
    permit_new a.table.now a.topic.now c.requires a.alias (omega arith) (omega arith) (eqb-false _ 0 (sym c.if-is_empty.ensures)) c.if-topic-gt128.false
