-- `topics::first_levels` is right since a level `#` decides, `+` has its own case, and any other level has to be the first of the topic. Assumes nothing.
use mathlib.Core.Path.{sym, ◌∙◌}
use Rattle.topics.proofs.Laws.{own_level, decides_hash, level_met, level_missed}
use Rattle.topics.proofs.first_levels.Goals as goal

pub returns-then-is_lone : goal.returns-then-is_lone
returns-then-is_lone c =
    let x = c.args in
    decides_hash x.topic.now x.filter.now _ c.level_len-f.ensures (sym c.if-is_lone.true ∙ c.is_lone.ensures)

pub is_first-requires : goal.is_first-requires
is_first-requires c = own_level _ _ c.level_len-f.ensures

pub after-requires : goal.after-requires
after-requires c =
    let x = c.args in
    level_met x.topic.now x.filter.now _ c.level_len-f.ensures (sym c.is_lone.ensures ∙ c.if-is_lone.false) (sym c.is_first.ensures ∙ c.if-is_first.true)

pub returns : goal.returns
returns c =
    let x = c.args in
    level_missed x.topic.now x.filter.now _ c.level_len-f.ensures (sym c.is_lone.ensures ∙ c.if-is_lone.false) (sym c.is_lone-2.ensures ∙ c.if-is_lone-2.false) (sym c.is_first.ensures ∙ c.if-is_first.false)
