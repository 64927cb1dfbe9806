-- `subscribe_write::block_length` is right since it adds up the rows of the table. Assumes nothing.
use Rattle.subscribe_write.specs.Handed.{handed}
use Rattle.subscribe_write.proofs.Laws.{subscribe_length}
use Rattle.subscribe_write.proofs.block_length.Goals as goal

pub returns : goal.returns
returns c =
    let a = c.args in
    λ fs ns os. subscribe_length (handed a.m a.user.now a.user_lengths.now fs ns os) _ _ _ c.one_size_number.ensures c.pairs_size.ensures c.add.ensures
