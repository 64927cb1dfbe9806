-- `crc32::crc32` is right since the tables are right by computing them, and the rest is the law of slices. Assumes nothing.
use mathlib.Core.Path.{ap}
use Prim.Native.Nat.{ℕ}
use lib.Bits.{bit_xor}
use Rattle.crc32.specs.Crc.{shift, shifts, crc_of, all_ones}
use Rattle.crc32.proofs.Laws.{rows, rows_right}
use Rattle.crc32.proofs.crc32.Goals as goal

pub all-requires : goal.all-requires
unfolding rows shifts shift
all-requires c = rows_right

pub returns : goal.returns
unfolding crc_of
returns c = ap (λ (r : ℕ). bit_xor r all_ones) c.all.ensures
