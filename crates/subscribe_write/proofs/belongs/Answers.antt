-- `subscribe_write::belongs` is right since all belongs together exactly if the rows of the table and the filters do. Assumes nothing.
use Rattle.writing.specs.Handed.{row_belongs}
use Rattle.write_runs.proofs.Laws.Given.{given_as}
use Rattle.subscribe_write.specs.Handed.{handed}
use Rattle.subscribe_write.proofs.Laws.{belong_all}
use Rattle.subscribe_write.proofs.belongs.Goals as goal

pub returns : goal.returns
returns c =
    let a = c.args in
    belong_all (handed a.m a.user.now a.user_lengths.now a.filters.now a.filter_lengths.now a.options.now)
    (given_as (row_belongs a.m.block) _ (c.one_belongs.ensures (λ n. n))) c.pairs_belong.ensures c.filters_belong.ensures
    c.both-block.ensures c.both.ensures
