-- `publish_write::size` is right since what it hands on is whether all belongs together, and R. Assumes nothing.
use mathlib.Core.Path.{◌∙◌}
use Rattle.writing.specs.Handed.{publish}
use Rattle.write_order.proofs.Laws.{sized_found}
use Rattle.publish_plan.specs.Handed.{handed}
use Rattle.publish_write.proofs.size.Goals as goal

pub returns : goal.returns
returns c =
    let a = c.args in
    c.size.ensures
    ∙ sized_found (publish (handed a.head a.topic.now a.response_topic.now a.correlation_data.now a.user.now a.user_lengths.now a.subscription_identifiers.now
    a.content_type.now a.payload.now)) _ _ (c.all_belong-together.ensures a.topic.now a.payload.now) c.sizes-sizes.ensures.0
