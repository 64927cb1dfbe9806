-- `write_ack_properties::put_rows` is right since each row is put behind the one before it. Assumes nothing.
use Rattle.grammar.specs.Tables.{text}
use Rattle.write_runs.specs.Given.{run}
use Rattle.write_ack_properties.proofs.Laws.{put_both}
use Rattle.write_ack_properties.proofs.put_rows.Goals as goal

pub returns : goal.returns
returns c =
    let a = c.args in
    put_both (record { on = a.on; bytes = a.text.now }) (run a.user.now a.user_lengths.now) a.out.now _ _ _ a.at _ _ _ _ _ _ _ c.rows_length-len.ensures
    c.put_length-n.ensures c.after-first.ensures
    (c.put_lent-k.ensures text) c.after-second.ensures
    c.put_pairs-j.ensures c.after.ensures
