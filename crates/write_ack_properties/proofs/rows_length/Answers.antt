-- `write_ack_properties::rows_length` is right since it adds up the rows of the table. Assumes nothing.
use Rattle.grammar.specs.Tables.{text}
use Rattle.write_runs.specs.Given.{run}
use Rattle.write_ack_properties.proofs.Laws.{length_both}
use Rattle.write_ack_properties.proofs.rows_length.Goals as goal

pub returns : goal.returns
returns c =
    let a = c.args in
    length_both (record { on = a.on; bytes = a.text.now }) (run a.user.now a.user_lengths.now) _ _ _ (c.lent_size.ensures text) c.pairs_size.ensures c.add.ensures
