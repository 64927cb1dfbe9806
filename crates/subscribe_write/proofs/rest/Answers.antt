-- `subscribe_write::rest` is right since R is the identifier, the block and the filters. Assumes nothing.
use Rattle.subscribe_write.specs.Handed.{handed}
use Rattle.subscribe_write.proofs.Laws.{subscribe_rest}
use Rattle.subscribe_write.proofs.rest.Goals as goal

pub returns : goal.returns
returns c =
    let a = c.args in
    λ ns. subscribe_rest (handed a.m a.user.now a.user_lengths.now a.filters.now ns a.options.now) _ _ _ _ _ (c.block_length.ensures a.filters.now ns a.options.now) c.with_length-block.ensures c.filters_size.ensures c.add.ensures c.add-2.ensures
