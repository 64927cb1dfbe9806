-- `c_write::put_subscribe::ecch_subscribe_size` is right since what is returned and stored is of the size that `size_subscribe` gives. Assumes nothing.
use mathlib.Core.Path.{ap, ◌∙◌}
use Rattle.writing.specs.Write.{sized_behind}
use Rattle.c_heads.specs.By.{behind}
use Rattle.c_write.proofs.Laws.{answered_by}
use Rattle.c_write.proofs.put_subscribe.ecch_subscribe_size.Goals as goal

pub returns : goal.returns
returns c =
    let all = answered_by _ (c.store_size.ensures.number, c.store_size.ensures.stored) (c.size_subscribe-size.ensures ∙ ap (λ t. sized_behind (behind t)) (c.subscribe_head-by.ensures c.args.user.now c.args.user_lengths.now c.args.filters.now c.args.filter_lengths.now c.args.options.now)) in
    record { number = all.0; stored = all.1 }
