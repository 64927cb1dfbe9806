-- `alias::judge_plain` is right since without an alias only an empty topic is refused. Assumes nothing.
use mathlib.Core.Path.{sym}
use borrow.Author.Tests.{eqb-true, eqb-false}
use Rattle.alias.proofs.Laws.{permit_missing, permit_plain}
use Rattle.alias.proofs.judge_plain.Goals as goal

pub returns-then-is_empty : goal.returns-then-is_empty
returns-then-is_empty c = let a = c.args in permit_missing a.table.now a.topic.now c.requires (eqb-true _ 0 (sym c.if-is_empty.ensures))

pub returns : goal.returns
returns c = let a = c.args in permit_plain a.table.now a.topic.now c.requires (eqb-false _ 0 (sym c.if-is_empty.ensures))
