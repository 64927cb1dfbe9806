-- `publish_plan::test::before_size` is right since what belongs together comes first, then the fields. Assumes nothing.
use mathlib.Core.Path.{◌∙◌}
use Rattle.writing.specs.Handed.{publish}
use Rattle.write_order.proofs.Laws.{before_size_foreign, before_size_fields}
use Rattle.publish_plan.specs.Handed.{handed}
use Rattle.publish_plan.proofs.test.before_size.Goals as goal

pub returns-then-not-together : goal.returns-then-not-together
returns-then-not-together c =
    let a = c.args in
    λ p. before_size_foreign (publish (handed a.head a.topic.now a.response_topic.now a.correlation_data.now a.user.now a.user_lengths.now a.subscription_identifiers.now
    a.content_type.now p)) _ (c.all_belong-together.ensures a.topic.now p) (c.if-not-together.true)

pub returns : goal.returns
returns c =
    let a = c.args in
    λ p. c.test_fields.ensures a.subscription_identifiers.now p
    ∙ before_size_fields (publish (handed a.head a.topic.now a.response_topic.now a.correlation_data.now a.user.now a.user_lengths.now a.subscription_identifiers.now
    a.content_type.now p)) _ (c.all_belong-together.ensures a.topic.now p) (c.if-not-together.false)
