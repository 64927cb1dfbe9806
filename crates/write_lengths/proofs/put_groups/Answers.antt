-- `write_lengths::put_groups` is right since after each turn what is left to put is the spelling of `rest`. Assumes nothing.
use Rattle.write_lengths.proofs.Laws.{none_spelt, spelt_last, spelt_next, spelt_full}
use Rattle.write_lengths.proofs.put_groups.Goals as goal

pub loop-i-init : goal.loop-i-init
loop-i-init c = none_spelt _ _ _

pub loop-i-preserved : goal.loop-i-preserved
loop-i-preserved c = spelt_next c.loop-i.invariant c.loop-i-test.true _ c.if-rest-lt128.false c.put-in-loop-i.ensures.stores

pub returns-then-rest-lt128 : goal.returns-then-rest-lt128
returns-then-rest-lt128 c = spelt_last c.loop-i.invariant c.loop-i-test.true _ c.if-rest-lt128.true c.put.ensures.stores

pub returns : goal.returns
returns c = spelt_full c.loop-i.invariant c.loop-i-test.false c.loop-i.auto.i-end
