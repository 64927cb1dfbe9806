-- `c_write::put_subscribe::ecch_subscribe_write` is right since what is returned and stored is of the answer that `write_subscribe` gives. Assumes nothing.
use mathlib.Core.Path.{ap}
use Rattle.c_heads.specs.By.{behind}
use Rattle.c_write.proofs.Laws.{behind_by}
use Rattle.c_write.proofs.put_subscribe.ecch_subscribe_write.Goals as goal

pub returns : goal.returns
returns c =
    let all = behind_by _ c.args.out.now (c.store_written.ensures.number, c.store_written.ensures.stored) c.bound.ensures (ap behind (c.subscribe_head-by.ensures c.args.user.now c.args.user_lengths.now c.args.filters.now c.args.filter_lengths.now c.args.options.now)) c.write_subscribe-written.ensures in
    record { number = all.0; output = all.1.0; stored = all.1.1 }
