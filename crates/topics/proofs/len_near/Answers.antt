-- `topics::len_near` is right since the first level ends at the first separator. Assumes nothing.
use Rattle.std.proofs.Common.{rules, ap, ◌∙◌, length}
use Rattle.std.proofs.lemmas.Iterator.{YieldsList-from_slice}
use Rattle.std.proofs.lemmas.Iterator.Search.{position_from_yields_List}
use Rattle.std.specs.Option.{unwrap_or}
use lib.Dec.{eqb}
use Rattle.topics.specs.Levels.{slash}
use Rattle.topics.proofs.Laws.{ends_here, len_position}
use Rattle.topics.proofs.len_near.Goals as goal

pub returns : goal.returns
returns c =
    let q = position_from_yields_List (λ b. eqb b slash) _ _ _ c.position.ensures.ran (YieldsList-from_slice c.args.s.now cc) (λ x b q k. search rules) in
    ends_here _ _ (c.unwrap_or.ensures ∙ ap (λ r. unwrap_or r (length c.args.s.now)) q ∙ len_position _)
