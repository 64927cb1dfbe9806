-- `ack_write::put_reason` is right since a byte is spelled as it stands. Assumes nothing.
use mathlib.Core.Path.{sym, ap, ◌∙◌}
use native.Mathlib.Omega.{arith}
use lib.Seq.{sets}
use Rattle.write_numbers.proofs.Laws.Put.{wide_one}
use Rattle.ack_write.proofs.put_reason.Goals as goal

pub returns : goal.returns
returns c =
    c.put.ensures.stores ∙ ap (sets c.args.out.now c.args.at) (sym (wide_one (omega (arith, c.ranges.reason))))
