-- `c_write::put_ping::ecch_ping_size` is right since what is returned and stored is of the size that `ping_size` gives. Assumes nothing.
use Rattle.c_write.proofs.Laws.{answered_by}
use Rattle.c_write.proofs.put_ping.ecch_ping_size.Goals as goal

pub returns : goal.returns
returns c = λ k. answered_by _ (c.store_size.ensures.number, c.store_size.ensures.stored) (c.ping_size-size.ensures k)
