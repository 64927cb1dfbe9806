-- `topics::wild_in` is right since each byte passed is asked. Assumes nothing.
use mathlib.Core.Path.{refl, sym}
use Rattle.std.proofs.lemmas.List.{take_more}
use Rattle.topics.specs.Levels.{has_wild}
use Rattle.topics.proofs.Laws.{wild_push}
use Rattle.topics.proofs.wild_in.Goals as goal

pub loop-b-init : goal.loop-b-init
unfolding has_wild
loop-b-init c = refl

pub loop-b-preserved : goal.loop-b-preserved
loop-b-preserved c = rw (c.is_wild-any.ensures, c.loop-b.invariant, take_more c.args.run.now c.loop-b.b-index 0 c.loop-b-test.true) (sym (wild_push _ _))
