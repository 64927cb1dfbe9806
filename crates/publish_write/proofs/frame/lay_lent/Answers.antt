-- `publish_write::frame::lay_lent` is right since what is on is a string behind its identifier byte, and what is off is nothing. Assumes nothing.
use Rattle.publish_write.proofs.Parts.{whole_laid, lent_on}
use Rattle.publish_write.proofs.frame.lay_lent.Goals as goal

pub returns-then-on : goal.returns-then-on
returns-then-on c =
    let a = c.args in
    λ f. lent_on a.id f c.if-on.true a.s.now c.store.ensures (whole_laid a.s.now c.lay_string.ensures)
