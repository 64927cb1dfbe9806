-- `c_write::put_ack::ack_size` is right since the head is what is handed over, and what is returned and stored is of its size. Assumes nothing.
use mathlib.Core.Path.{ap, ◌∙◌}
use Rattle.writing.specs.Write.{size_of}
use Rattle.c_write.proofs.Laws.{answered_by}
use Rattle.c_write.proofs.put_ack.ack_size.Goals as goal

pub returns : goal.returns
returns c =
    let a = c.args in
    let all = answered_by _ (c.store_size.ensures.number, c.store_size.ensures.stored) (c.size-size.ensures ∙ ap size_of (c.ack_head-head.ensures a.reason_string.now a.user.now a.user_lengths.now)) in
    record { number = all.0; stored = all.1 }
