-- `crc32::pass` is right since the two halves of a byte go in by their tables, and shifts are linear. Assumes nothing.
use mathlib.Core.Path.{ap}
use Prim.Native.Nat.{ℕ}
use native.Mathlib.Omega.{arith}
use lib.Bits.{bit_and, bit_xor}
use Rattle.crc32.proofs.Laws.{by_tables}
use Rattle.crc32.proofs.pass.Goals as goal

pub returns : goal.returns
returns c = by_tables c.args.k c.args.r c.args.b _ c.requires.0 c.requires.1 (omega arith) (ap (λ (n : ℕ). bit_and (bit_xor c.args.r n) 255) c.from.ensures)
