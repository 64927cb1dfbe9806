-- `publish_plan::sizes::properties_size` is right since L is the sum of the rows, and a sum of sums that are cut off is cut off alike. Assumes nothing.
use Rattle.grammar.specs.Tables.{u8, u16, u32, text, bytes}
use Rattle.writing.specs.Size.{given_size, cap}
use Rattle.write_runs.proofs.Laws.Given.{given_as}
use Rattle.publish_plan.proofs.Sums.{sum_all}
use Rattle.publish_plan.proofs.sizes.properties_size.Goals as goal

pub returns : goal.returns
returns c =
    let a = c.args in
    λ t p. sum_all a.head t a.response_topic.now a.correlation_data.now a.user.now a.user_lengths.now a.subscription_identifiers.now a.content_type.now p
    (given_as (λ g. cap (given_size u8 g)) _ c.one_size-2.ensures)
    (given_as (λ g. cap (given_size u32 g)) _ c.one_size-3.ensures)
    (given_as (λ g. cap (given_size u16 g)) _ c.one_size.ensures)
    (c.lent_size-response.ensures text)
    (c.lent_size-correlation.ensures bytes)
    c.pairs_size.ensures
    c.ids_size-ids.ensures
    (c.lent_size-content.ensures text)
    c.add.ensures
    c.add-lists.ensures c.add-2.ensures
    c.add-strings.ensures c.add-numbers.ensures c.add-3.ensures c.add-4.ensures
