-- `crc32::eight` is right since each of the eight bytes goes in by the number of bytes behind it. Assumes nothing.
use mathlib.Core.Path.{ap, ◌∙◌}
use native.Mathlib.Omega.{arith}
use lib.Seq.{take_all}
use Rattle.crc32.specs.Crc.{bytes_in}
use Rattle.crc32.proofs.Laws.{eight_passes}
use Rattle.crc32.proofs.eight.Goals as goal

pub returns : goal.returns
returns c =
    eight_passes c.args.r c.args.s.now 0 (omega arith) (λ j. omega (arith, c.fits-s j)) (omega arith) c.pass.ensures c.pass-2.ensures c.pass-3.ensures c.pass-4.ensures c.pass-5.ensures c.pass-6.ensures c.pass-7.ensures c.pass-8.ensures
    ∙ ap (bytes_in c.args.r) (take_all 8 c.args.s.now (omega arith))
