-- `tidying::put_byte` is right since a byte is its own one digit. Assumes nothing.
use mathlib.Core.Path.{sym, ap, ◌∙◌}
use native.Mathlib.Omega.{arith}
use lib.Seq.{sets}
use Rattle.write_numbers.proofs.Laws.Put.{wide_one}
use Rattle.tidying.proofs.put_byte.Goals as goal

pub returns : goal.returns
returns c = c.put.ensures.stores ∙ ap (sets c.args.out.now c.args.at) (sym (wide_one (omega (arith, c.ranges.b))))
