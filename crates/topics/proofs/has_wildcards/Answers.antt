-- `topics::has_wildcards` is right since it asks each byte. Assumes nothing.
use Rattle.std.proofs.Common.{rules, ◌∙◌}
use Rattle.std.proofs.lemmas.Iterator.{YieldsList-from_slice}
use Rattle.std.proofs.lemmas.Iterator.Search.{any_from_yields_List}
use Rattle.topics.specs.Levels.{is_wild}
use Rattle.topics.proofs.Laws.{wild_any}
use Rattle.topics.proofs.has_wildcards.Goals as goal

pub returns-then-s-lt8 : goal.returns-then-s-lt8
returns-then-s-lt8 c = any_from_yields_List is_wild _ _ _ c.any.ensures.ran (YieldsList-from_slice c.args.s.now cc) (λ x b q k. search rules) ∙ wild_any _
