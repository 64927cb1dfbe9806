-- `write_tests::test_raw` is right since only the length is tested: the test holds or is the one that fails. Assumes nothing.
use mathlib.Core.Path.{sym}
use native.Mathlib.Omega.{arith}
use Rattle.writing.specs.Order.{raw}
use Rattle.writing.specs.Refuse.{long_raw}
use Rattle.writing.proofs.Judge.{field_pass, field_fault}
use Rattle.write_tests.proofs.test_raw.Goals as goal

pub returns-then-s-gt65535 : goal.returns-then-s-gt65535
returns-then-s-gt65535 c = sym (field_fault (long_raw {s = c.args.s.now} (omega arith)))

pub returns : goal.returns
returns c = sym (field_pass (raw c.args.s.now) (omega arith))
