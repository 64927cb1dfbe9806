-- `write_tests::test_words` is right since every part of a run of ASCII bytes is text. Assumes nothing.
use mathlib.Core.Path.{sym, ◌∙◌}
use native.Mathlib.Omega.{arith}
use Rattle.write_tests.proofs.Lists.{run_fine}
use Rattle.write_tests.proofs.test_words.Goals as goal

pub returns-then-is_all_ascii : goal.returns-then-is_all_ascii
returns-then-is_all_ascii c =
    let a = c.args in
    sym (run_fine a.lengths.now a.bytes.now (omega arith) (sym c.is_all_ascii.ensures ∙ c.if-is_all_ascii.true))
