-- `c_journal::from_codes` is right since each byte is a state, or the first that is none ends it. Assumes nothing.
use mathlib.Core.Path.{◌∙◌}
use native.Mathlib.Omega.{arith}
use Rattle.inflight.proofs.Laws.{below_four}
use Rattle.c_journal.proofs.Bytes.{taken_more, not_long, not_states, taken_all}
use Rattle.c_journal.proofs.from_codes.Goals as goal

pub returns-then-codes-ne-LIMIT : goal.returns-then-codes-ne-LIMIT
returns-then-codes-ne-LIMIT c = not_long _ c.if-codes-ne-LIMIT.true

pub returns-then-x-gt3 : goal.returns-then-x-gt3
returns-then-x-gt3 c = not_states c.loop-i.invariant (omega arith) (omega arith) (omega arith)

pub loop-i-preserved : goal.loop-i-preserved
loop-i-preserved c = taken_more _ c.loop-i.invariant (omega arith) (omega arith) (c.wait_of.ensures ∙ below_four (omega arith)) (omega arith)

pub returns : goal.returns
returns c = taken_all c.loop-i.invariant (omega arith) (omega arith)
