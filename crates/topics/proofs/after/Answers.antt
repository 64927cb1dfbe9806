-- `topics::after` is right since what is left of one of the two decides, or what is left of both. Assumes nothing.
use Rattle.topics.proofs.Laws.{decides_end, decides_short, goes_on}
use Rattle.topics.proofs.after.Goals as goal

pub returns-then-f-filter : goal.returns-then-f-filter
returns-then-f-filter c = decides_end _ _ _ _ c.requires c.if-f-filter.true

pub returns-then-t-topic : goal.returns-then-t-topic
returns-then-t-topic c = decides_short _ _ _ _ c.requires c.if-f-filter.false c.if-t-topic.true _ c.starts_hash.ensures

pub returns : goal.returns
returns c = goes_on _ _ _ _ c.requires c.if-f-filter.false c.if-t-topic.false
