-- `write_tests::test_word` is right since the length is tested first, then the text. Assumes nothing.
use Rattle.records.proofs.Laws.{handed_on}
use Rattle.write_tests.proofs.Laws.{word_long, word_chars}
use Rattle.write_tests.proofs.test_word.Goals as goal

pub returns-in_err-test_raw : goal.returns-in_err-test_raw
returns-in_err-test_raw c = handed_on _ _ _ c.from_residual.ensures.1 (word_long c.args.s.now _ c.in_err-test_raw.ensures)

pub returns : goal.returns
returns c = word_chars c.args.s.now c.in_ok-test_raw.ensures _ c.test_chars.ensures
