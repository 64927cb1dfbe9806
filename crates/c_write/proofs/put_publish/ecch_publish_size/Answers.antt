-- `c_write::put_publish::ecch_publish_size` is right since what is returned and stored is of the size that `size_publish` gives. Assumes nothing.
use mathlib.Core.Path.{ap, ◌∙◌}
use Rattle.writing.specs.Write.{sized_behind}
use Rattle.c_heads.specs.By.{behind}
use Rattle.c_write.proofs.Laws.{answered_by}
use Rattle.c_write.proofs.put_publish.ecch_publish_size.Goals as goal

pub returns : goal.returns
returns c =
    let a = c.args in
    let all = answered_by _ (c.store_size.ensures.number, c.store_size.ensures.stored) (c.size_publish-size.ensures ∙ ap (λ t. sized_behind (behind t)) (c.publish_head-by.ensures a.topic.now a.response.now a.correlation.now a.user.now a.user_lengths.now a.identifiers.now a.content.now a.payload.now)) in
    record { number = all.0; stored = all.1 }
