-- `write_properties::put_counted` is right since the byte and the spelling behind it, of four bytes at most, are one put. Assumes nothing.
use mathlib.Core.Path.{ap}
use Prim.Native.Nat.{ℕ, ◌+◌}
use native.Mathlib.Omega.{arith}
use Rattle.write_lengths.specs.Fitting.{fit_short}
use Rattle.write_properties.proofs.Fits.{short_most}
use Rattle.write_properties.proofs.Laws.{put_row}
use Rattle.write_properties.proofs.put_counted.Goals as goal

pub overflow_add-result : goal.overflow_add-result
overflow_add-result c =
    let n : ℕ = c.args.n in
    omega (arith, short_most n, c.put_length.ensures.1)

pub returns : goal.returns
returns c =
    let a = c.args in
    let w = c.put_length in
    (put_row a.out.now _ _ (fit_short a.n) a.at a.first _ _ c.put_id-next.ensures w.ensures.0 (ap (λ (k : ℕ). 1 + k) w.ensures.1), omega (arith, short_most a.n, w.ensures.1))
