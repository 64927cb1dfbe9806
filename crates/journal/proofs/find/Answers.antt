-- `journal::find` is right since what is behind the blocks that are left decides. Assumes nothing.
use mathlib.Core.Path.{◌≡◌}
use borrow.Author.Rules.{rules}
use Rattle.journal.proofs.Finding.{walk_none, walk_more, walk_all}
use Rattle.journal.proofs.find.Goals as goal

pub loop-b-init : goal.loop-b-init
loop-b-init c = let e : c.into_iter-b-iterator.result.iter.rest.now ≡ c.args.blocks.now = search rules in walk_none _ e

pub loop-b-preserved : goal.loop-b-preserved
loop-b-preserved c = walk_more _ c.loop-b.invariant c.in-Some.ensures.steps c.better-best.ensures

pub returns : goal.returns
returns c = walk_all c.loop-b.invariant c.in-None.ensures.steps.0
