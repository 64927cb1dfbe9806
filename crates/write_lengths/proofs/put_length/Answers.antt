-- `write_lengths::put_length` is right since what fits is left to `put_fitting`, and what does not is not put. Assumes nothing.
use mathlib.Core.Path.{refl}
use native.Mathlib.Omega.{arith}
use Rattle.write_lengths.proofs.Fits.{short_fits, short_not}
use Rattle.write_lengths.proofs.put_length.Goals as goal

pub returns-then-n-le-MOST : goal.returns-then-n-le-MOST
returns-then-n-le-MOST c =
    let n = c.args.n in
    rw (short_fits n (omega arith)) c.put_fitting.ensures

pub returns : goal.returns
returns c = let n = c.args.n in rw (short_not n (omega arith)) (refl, refl)
