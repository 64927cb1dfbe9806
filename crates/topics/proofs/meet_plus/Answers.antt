-- `topics::meet_plus` is right since `+` meets every level but `#`. Assumes nothing.
use mathlib.Core.Path.{sym, ◌∙◌}
use Rattle.topics.proofs.Laws.{plus_hash, plus_met}
use Rattle.topics.proofs.meet_plus.Goals as goal

pub returns-then-is_lone : goal.returns-then-is_lone
returns-then-is_lone c =
    let x = c.args in
    plus_hash x.topic.now x.filter.now x.f c.requires.0 _ c.level_len-t.ensures c.requires.1 (sym c.is_lone.ensures ∙ c.if-is_lone.true)

pub after-requires : goal.after-requires
after-requires c =
    let x = c.args in
    plus_met x.topic.now x.filter.now x.f c.requires.0 _ c.level_len-t.ensures c.requires.1 (sym c.is_lone.ensures ∙ c.if-is_lone.false)
