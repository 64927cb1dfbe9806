-- `write_tests::test_chars` is right since `is_utf8` says whether the bytes are text. Assumes nothing.
use mathlib.Core.Path.{sym, ◌∙◌}
use Rattle.write_tests.proofs.Laws.{chars_fine, chars_broken}
use Rattle.write_tests.proofs.test_chars.Goals as goal

pub returns-then-is_utf8 : goal.returns-then-is_utf8
returns-then-is_utf8 c = chars_fine c.args.s.now (sym c.is_utf8.ensures ∙ c.if-is_utf8.true)

pub returns : goal.returns
returns c = chars_broken c.args.s.now (sym c.is_utf8.ensures ∙ c.if-is_utf8.false)
