use mathlib.Core.Path.{◌∙◌}
use native.Mathlib.Omega.{arith}
use borrow.Author.Rules.{rules}
use Rattle.inflight.proofs.Laws.{below_four, unmapped}
use Rattle.journal.specs.Block.{table_in}
use Rattle.journal.proofs.Turns.{filled_none, filled_more, filled_all, wait_small}
use Rattle.journal.proofs.table_of.Goals as goal

pub loop-i-init : goal.loop-i-init
loop-i-init c = filled_none _ _ (search (rules, unmapped))

pub loop-i-preserved : goal.loop-i-preserved
loop-i-preserved c = filled_more _ c.loop-i.invariant (omega arith) (c.wait_of.ensures ∙ below_four (rw c.wait_in.ensures (wait_small _ _)) ∙ c.wait_in.ensures)

pub returns : goal.returns
unfolding table_in
returns c = filled_all c.loop-i.invariant (omega arith)
