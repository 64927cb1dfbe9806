-- `write_ack_properties::rows_belong` is right since the block belongs together exactly if both rows do. Assumes nothing.
use Rattle.write_runs.specs.Given.{run}
use Rattle.write_ack_properties.proofs.Laws.{belong_both}
use Rattle.write_ack_properties.proofs.rows_belong.Goals as goal

pub returns : goal.returns
returns c =
    let a = c.args in
    belong_both (record { on = a.on; bytes = a.text.now }) (run a.user.now a.user_lengths.now) a.block c.lent_belongs.ensures c.pairs_belong.ensures c.both.ensures
