-- `publish_plan::sizes::sizes` is right since R is counted from L. Assumes nothing.
use Rattle.publish_plan.proofs.sizes.sizes.Goals as goal

pub returns : goal.returns
returns c =
    let a = c.args in
    let e = c.properties_size-properties.ensures a.topic.now a.payload.now in
    (c.rest_size-rest.ensures a.response_topic.now a.correlation_data.now a.user.now a.user_lengths.now a.subscription_identifiers.now a.content_type.now e, e)
