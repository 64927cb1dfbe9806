-- `publish_plan::belong::all_belong` is right since all rows belong exactly if each does. Assumes nothing.
use Rattle.writing.specs.Handed.{row_belongs}
use Rattle.write_runs.proofs.Laws.Given.{given_as}
use Rattle.publish_plan.proofs.Laws.{belong_all}
use Rattle.publish_plan.proofs.belong.all_belong.Goals as goal

pub returns : goal.returns
returns c =
    let a = c.args in
    λ t p. belong_all a.head t a.response_topic.now a.correlation_data.now a.user.now a.user_lengths.now a.subscription_identifiers.now a.content_type.now p
    (given_as (row_belongs a.head.block) _ (c.one_belongs-2.ensures (λ n. n)))
    (given_as (row_belongs a.head.block) _ (c.one_belongs-3.ensures (λ n. n)))
    (given_as (row_belongs a.head.block) _ (c.one_belongs.ensures (λ n. n)))
    c.lent_belongs-response.ensures
    c.lent_belongs-correlation.ensures
    c.pairs_belong.ensures
    c.ids_belong-ids.ensures
    c.lent_belongs-content.ensures
    c.both.ensures
    c.both-lists.ensures c.both-2.ensures
    c.both-strings.ensures c.both-numbers.ensures c.both-3.ensures c.both-4.ensures
