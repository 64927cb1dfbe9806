-- `c_write::put_ping::ecch_pingreq_write` is right since what is returned and stored is of the answer that the writer gives. Assumes nothing.
use mathlib.Core.Path.{refl}
use Rattle.c_write.proofs.Laws.{written_by}
use Rattle.c_write.proofs.put_ping.ecch_pingreq_write.Goals as goal

pub returns : goal.returns
returns c =
    let all = written_by _ _ (c.store_written.ensures.number, c.store_written.ensures.stored) c.bound.ensures refl c.write_ping_req-written.ensures in
    record { number = all.0; output = all.1.0; stored = all.1.1 }
