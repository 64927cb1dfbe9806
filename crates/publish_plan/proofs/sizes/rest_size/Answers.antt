-- `publish_plan::sizes::rest_size` is right since R is the sum of its parts. Assumes nothing.
use Rattle.publish_plan.specs.Handed.{handed}
use Rattle.publish_plan.proofs.Sums.{rest_all}
use Rattle.publish_plan.proofs.sizes.rest_size.Goals as goal

pub returns : goal.returns
returns c =
    let a = c.args in
    λ r b u l i d e. rest_all (handed a.head a.topic.now r b u l i d a.payload.now) c.qos_number.ensures e
    c.with_length.ensures c.add-block.ensures c.pkid_size-pkid.ensures c.add.ensures
    c.add-2.ensures
