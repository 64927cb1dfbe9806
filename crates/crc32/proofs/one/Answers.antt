-- `crc32::one` is right since one byte goes in by the first two tables. Assumes nothing.
use native.Mathlib.Omega.{arith}
use Rattle.crc32.proofs.Laws.{one_byte}
use Rattle.crc32.proofs.one.Goals as goal

pub returns : goal.returns
returns c = one_byte c.args.r c.args.b _ (omega arith) c.pass.ensures
