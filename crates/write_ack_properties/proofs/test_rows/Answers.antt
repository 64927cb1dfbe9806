-- `write_ack_properties::test_rows` is right since the texts are tested in the order in which they are written. Assumes nothing.
use mathlib.Core.Path.{refl}
use Rattle.records.proofs.Laws.{handed_on}
use Rattle.write_runs.specs.Given.{run}
use Rattle.write_ack_properties.proofs.Laws.{test_both}
use Rattle.write_ack_properties.proofs.test_rows.Goals as goal

pub returns-in_err-test_text : goal.returns-in_err-test_text
returns-in_err-test_text c =
    let a = c.args in
    handed_on _ _ _ c.from_residual.ensures.1 (test_both (record { on = a.on; bytes = a.text.now }) (run a.user.now a.user_lengths.now) c.in_err-test_text.ensures refl refl)

pub returns : goal.returns
returns c =
    let a = c.args in
    test_both (record { on = a.on; bytes = a.text.now }) (run a.user.now a.user_lengths.now) c.in_ok-test_text.ensures c.test_words.ensures refl
