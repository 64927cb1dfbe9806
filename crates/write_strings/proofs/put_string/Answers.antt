-- `write_strings::put_string` is right since what does not fit is not put, and the rest is left to `put_fitting`. Assumes nothing.
use mathlib.Core.Path.{refl, sym}
use native.Mathlib.Omega.{arith}
use Rattle.writing.proofs.Sizes.{length_string}
use Rattle.write_strings.proofs.Fits.{string_fits, string_not}
use Rattle.write_strings.proofs.put_string.Goals as goal

pub returns-then-s-gt65535 : goal.returns-then-s-gt65535
returns-then-s-gt65535 c = rw (string_not _ c.if-s-gt65535.true) (refl, refl)

pub returns : goal.returns
returns c =
    let s = c.args.s.now in
    rw (string_fits s (omega arith)) (c.put_fitting.ensures, sym (length_string s))
